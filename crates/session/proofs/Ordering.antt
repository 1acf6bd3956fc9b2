-- The test of the pass is the inequality between neighbouring pairs, by the kinds of neighbours.
use mathlib.Core.Path.{◌≡◌, refl, sym, ap, ◌∙◌, subst}
use mathlib.Core.Bool.{true, and-eq-true_iff}
use mathlib.Core.Logic.{◌≢◌, ⊎_elim}
use mathlib.Core.List.{List}
use Prim.Native.Nat.{ℕ, zero, suc, ◌-◌, ◌≤◌, ◌<◌, min, max}
use native.Mathlib.Nat.{le_trans, not-suc-le-zero}
use native.Mathlib.Omega.{arith}
use lib.Dec.{leb}
use lib.ListN.{get_or, set, length, length-set}
use lib.Seq.{get_or-set_same, get_or-set_other}
use borrow.Author.Tests.{leb-true, le-leb}
use Rattle.tree.specs.Parents.{parent, Grown}
use Rattle.tree.proofs.Cases.{order, lt_or_le}
use Rattle.tree.proofs.Every.{every_at, every_of}
use Rattle.session.specs.Holding.{pair_at}
use Rattle.session.specs.Soundness.{Ordered}
use Rattle.session.specs.inner.Passes.{highs, lows, ordered_at, ordered}
use Rattle.session.proofs.Indices.{pair_up, pair_down, one_is_child, to_child, to_parent}
use Rattle.session.proofs.Keeping.{AtLeast, by_max, by_min, kept_start, kept_child, kept_best}

-- ---- the inequality by the kinds of neighbours

-- r and v are children of the same node; v is a child, and its parent has a parent; r is a child
pub record ByKind (ps up down : List ℕ) (n : ℕ) : Type 0 where
  pub siblings : (r v : ℕ) → 0 < r → r < n → 0 < v → v < n → r ≢ v → parent ps r ≡ parent ps v → get_or down v 0 ≤ get_or up r 0
  pub from_above : (v : ℕ) → 0 < v → v < n → 0 < parent ps v → get_or down v 0 ≤ get_or down (parent ps v) 0
  pub to_above : (r : ℕ) → 0 < r → r < n → get_or up (parent ps r) 0 ≤ get_or up r 0

module _ (ps up down : List ℕ) (n : ℕ) (inside_up : (j : ℕ) → parent ps j < length up) (inside_down : (j : ℕ) → parent ps j < length down) where
  inside_lows : (j : ℕ) → parent ps j < length (set down 0 255)
  inside_lows j = rw length-set (inside_down j)

  module _ (t : ordered n ps up down ≡ true) where
    tested : (k : ℕ) → k < n - 1 → (get_or (highs ps up down k) (parent ps (suc k)) 0 ≤ get_or up (suc k) 0) × (get_or down (suc k) 0 ≤ get_or (lows ps up down k) (parent ps (suc k)) 0)
    unfolding ordered
    tested k l =
        let p = (and-eq-true_iff (leb (get_or (highs ps up down k) (parent ps (suc k)) 0) (get_or up (suc k) 0)) (leb (get_or down (suc k) 0) (get_or (lows ps up down k) (parent ps (suc k)) 0))).0 (every_at (ordered_at ps up down) (n - 1) k t l) in
        (leb-true _ _ p.0, leb-true _ _ p.1)

    siblings : (r v : ℕ) → 0 < r → r < n → 0 < v → v < n → r ≢ v → parent ps r ≡ parent ps v → get_or down v 0 ≤ get_or up r 0
    siblings zero v zr hr zv hv d e = absurd (not-suc-le-zero zr)
    siblings (suc r) zero zr hr zv hv d e = absurd (not-suc-le-zero zv)
    siblings (suc r) (suc v) zr hr zv hv d e = order r v
        (λ l. le_trans (tested v (omega arith)).1 (subst (λ (p : ℕ). get_or (lows ps up down v) p 0 ≤ get_or up (suc r) 0) e (kept_child min ◌≤◌ by_min ps (set down 0 255) up inside_lows v r l)))
        (λ q. absurd (d (ap suc q)))
        (λ l. le_trans (subst (λ (p : ℕ). get_or down (suc v) 0 ≤ get_or (highs ps up down r) p 0) (sym e) (kept_child max AtLeast by_max ps up down inside_up r v l)) (tested r (omega arith)).0)

    from_above : (v : ℕ) → 0 < v → v < n → 0 < parent ps v → get_or down v 0 ≤ get_or down (parent ps v) 0
    from_above zero z h p = absurd (not-suc-le-zero z)
    from_above (suc v) z h p =
        le_trans (tested v (omega arith)).1
        (subst (λ (x : ℕ). get_or (lows ps up down v) (parent ps (suc v)) 0 ≤ x) (get_or-set_other down 0 (parent ps (suc v)) 255 0 (omega arith))
        (kept_start min ◌≤◌ by_min ps (set down 0 255) up inside_lows v (parent ps (suc v))))

    to_above : (r : ℕ) → 0 < r → r < n → get_or up (parent ps r) 0 ≤ get_or up r 0
    to_above zero z h = absurd (not-suc-le-zero z)
    to_above (suc r) z h = le_trans (kept_start max AtLeast by_max ps up down inside_up r (parent ps (suc r))) (tested r (omega arith)).0

    pub pass_says : ByKind ps up down n
    pass_says = record { siblings = siblings; from_above = from_above; to_above = to_above }

  -- a lease number is at most 255, which stands for the pair into the root that there is not
  module _ (o : ByKind ps up down n) (small : (j : ℕ) → 0 < j → j < n → get_or down j 0 ≤ 255) where
    high_holds : (k : ℕ) → k < n - 1 → get_or (highs ps up down k) (parent ps (suc k)) 0 ≤ get_or up (suc k) 0
    high_holds k l =
        kept_best max AtLeast by_max ps up down inside_up (get_or up (suc k) 0) k (parent ps (suc k)) (o.to_above (suc k) (omega arith) (omega arith))
        (λ j h e. o.siblings (suc k) (suc j) (omega arith) (omega arith) (omega arith) (omega arith) (omega arith) (sym e))

    start_holds : (k u : ℕ) → u ≡ parent ps (suc k) → k < n - 1 → get_or down (suc k) 0 ≤ get_or (set down 0 255) u 0
    start_holds k zero e l = rw (get_or-set_same down 0 255 0 (omega (arith, inside_down 0))) (small (suc k) (omega arith) (omega arith))
    start_holds k (suc u) e l =
        rw (get_or-set_other down 0 (suc u) 255 0 (omega arith))
        (subst (λ (x : ℕ). get_or down (suc k) 0 ≤ get_or down x 0) (sym e) (o.from_above (suc k) (omega arith) (omega arith) (omega arith)))

    low_holds : (k : ℕ) → k < n - 1 → get_or down (suc k) 0 ≤ get_or (lows ps up down k) (parent ps (suc k)) 0
    low_holds k l =
        kept_best min ◌≤◌ by_min ps (set down 0 255) up inside_lows (get_or down (suc k) 0) k (parent ps (suc k)) (start_holds k (parent ps (suc k)) refl l)
        (λ j h e. o.siblings (suc j) (suc k) (omega arith) (omega arith) (omega arith) (omega arith) (omega arith) e)

    pub pass_holds : ordered n ps up down ≡ true
    unfolding ordered
    pass_holds =
        every_of (ordered_at ps up down) (n - 1)
        (λ k l. rw (le-leb (get_or (highs ps up down k) (parent ps (suc k)) 0) (get_or up (suc k) 0) (high_holds k l), le-leb (get_or down (suc k) 0) (get_or (lows ps up down k) (parent ps (suc k)) 0) (low_holds k l)))

-- the inequality as it is stated, and by kinds
module _ (ps up down : List ℕ) (n : ℕ) (grown : Grown ps n) where
  pub by_kind : get_or up 0 0 ≡ 0 → Ordered ps n (pair_at 0 up down) → ByKind ps up down n
  by_kind first o = record { siblings = sib; from_above = fro; to_above = tow }
    where
      sib : (r v : ℕ) → 0 < r → r < n → 0 < v → v < n → r ≢ v → parent ps r ≡ parent ps v → get_or down v 0 ≤ get_or up r 0
      sib r v zr hr zv hv d e =
          let gr = grown r zr hr in
          let gv = grown v zv hv in
          let u = parent ps r in
          let h = o r u v hr (omega arith) hv (to_parent ps n grown r zr hr) (rw e (to_parent ps n grown v zv hv)) d in
          rw (pair_down 0 up down u v (omega arith), pair_up 0 up down r u gr) at h

      fro : (v : ℕ) → 0 < v → v < n → 0 < parent ps v → get_or down v 0 ≤ get_or down (parent ps v) 0
      fro v z h p =
          let u = parent ps v in
          let gv = grown v z h in
          let gu = grown u p (omega arith) in
          let q = o (parent ps u) u v (omega arith) (omega arith) h (to_child ps n grown u p (omega arith)) (to_parent ps n grown v z h) (omega arith) in
          rw (pair_down 0 up down u v gv, pair_down 0 up down (parent ps u) u gu) at q

      tow : (r : ℕ) → 0 < r → r < n → get_or up (parent ps r) 0 ≤ get_or up r 0
      tow r z h = lt_or_le 0 (parent ps r)
          (λ p.
          let u = parent ps r in
          let gr = grown r z h in
          let gu = grown u p (omega arith) in
          let q = o r u (parent ps u) h (omega arith) (omega arith) (to_parent ps n grown r z h) (to_child ps n grown u p (omega arith)) (omega arith) in
          rw (pair_up 0 up down u (parent ps u) gu, pair_up 0 up down r u gr) at q)
          (λ p. let e : parent ps r ≡ 0 = omega arith in rw (e, first) (omega arith))

  pub of_kinds : ByKind ps up down n → Ordered ps n (pair_at 0 up down)
  of_kinds k r u v hr hu hv a b d = ⊎_elim
      (λ (p : (r < u) × (parent ps u ≡ r)). ⊎_elim
      (λ (q : (v < u) × (parent ps u ≡ v)). absurd (d (sym p.1 ∙ q.1)))
      (λ (q : (u < v) × (parent ps v ≡ u)). rw (pair_down 0 up down u v q.0, pair_down 0 up down r u p.0) (rw q.1 at (k.from_above v (omega arith) hv (omega arith))))
      (one_is_child ps u v b))
      (λ (p : (u < r) × (parent ps r ≡ u)). ⊎_elim
      (λ (q : (v < u) × (parent ps u ≡ v)). rw (pair_up 0 up down u v q.0, pair_up 0 up down r u p.0) (rw p.1 at (k.to_above r (omega arith) hr)))
      (λ (q : (u < v) × (parent ps v ≡ u)). rw (pair_down 0 up down u v q.0, pair_up 0 up down r u p.0) (k.siblings r v (omega arith) hr (omega arith) hv d (p.1 ∙ sym q.1)))
      (one_is_child ps u v b))
      (one_is_child ps u r a)
