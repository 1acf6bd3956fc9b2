-- A combine's walk through any view is a tour: what a response carries is a function of its pair.
use mathlib.Core.Path.{◌≡◌, refl, sym, ap, ap₂, ◌∙◌}
use mathlib.Core.Bool.{Bool, true, false, ◌&&◌}
use mathlib.Core.List.{List, [], ◌∷◌, ◌++◌, append-nil}
use Prim.Native.Nat.{ℕ, zero, suc, ◌≤◌, ◌<◌}
use native.Mathlib.Nat.{le_refl}
use native.Mathlib.Omega.{arith}
use lib.Dec.{eqb}
use lib.IntN.{ℤ}
use Rattle.tree.specs.Operation.{Op}
use Rattle.tree.specs.Parents.{Grown}
use Rattle.tree.specs.Sides.{adjacent, other}
use Rattle.tree.specs.Sizes.{size}
use Rattle.tree.specs.Turns.{turn, joined}
use Rattle.tree.specs.Kept.{when}
use Rattle.tree.specs.inner.Tours.{visit, tour}
use Rattle.tree.proofs.Toward.{adjacent_sym}
use Rattle.tree.proofs.Sizes.{size_least, size_less, sizes_add}
use Rattle.tree.proofs.Turns.{round_same}
use Rattle.messages.specs.declared.Message.{Message}
use Rattle.messages.specs.declared.Message.TheVariants.{Probe, Response}
use Rattle.mechanism.specs.Views.{View}
use Rattle.mechanism.specs.Combining.{Said, asked, heard, hears, step_if, sofar, ask, combine}
use Rattle.mechanism.specs.Pairwise.{reply}
use Rattle.mechanism.proofs.Others.{others, size_most}
use Rattle.mechanism.proofs.Totals.{total_same, sum_is}

-- where u asks w, and what it and w say
abbrev pub asks : View → ℕ → ℕ → Bool
asks q w u = eqb (q.lease w u) 0

abbrev pub probes : ℕ → ℕ → List Message
probes w u = Probe u w ∷ []

abbrev pub responses : Op ℤ → View → ℕ → ℕ → List Message
responses op q w u = Response w u (reply op q w u) ∷ []

module _ (op : Op ℤ) (q : View) where
  log_is : (next : ℕ → ℕ → Said) (u v k : ℕ) → (sofar op q next u v k).log ≡ joined (λ j. when (other q.parents u v (turn q.count u j)) (hears op q next u (turn q.count u j)).log) k
  unfolding sofar joined step_if
  log_is next u v zero = refl
  log_is next u v (suc k) =
      let c = turn q.count u k in
      one c (other q.parents u v c) (sofar op q next u v k) (joined (λ j. when (other q.parents u v (turn q.count u j)) (hears op q next u (turn q.count u j)).log) k) (log_is next u v k)
    where
      one : (c : ℕ) (b : Bool) (s : Said) (t : List Message) → s.log ≡ t → (step_if op q b next u c s).log ≡ t ++ when b (hears op q next u c).log
      one c true s t e = ap (λ a. a ++ (hears op q next u c).log) e
      one c false s t e = e ∙ sym (append-nil t)

  -- one neighbour's part
  heard_log : (next : ℕ → ℕ → Said) (k u v w : ℕ)
      → (other q.parents u v w ≡ true → asks q w u ≡ true → (asked op q u w (next w u)).log ≡ visit q.parents q.count (asks q) probes (responses op q) k w u)
      → when (other q.parents u v w) (hears op q next u w).log ≡ when (other q.parents u v w && asks q w u) (visit q.parents q.count (asks q) probes (responses op q) k w u)
  unfolding heard
  heard_log next k u v w h = go (other q.parents u v w) refl (asks q w u) refl
    where
      go : (o : Bool) → other q.parents u v w ≡ o → (b : Bool) → asks q w u ≡ b
          → when o (heard op q b next u w).log ≡ when (o && b) (visit q.parents q.count (asks q) probes (responses op q) k w u)
      go true p true r = h p r
      go true p false r = refl
      go false p b r = refl

  module _ (grown : Grown q.parents q.count) where
    -- a falling number that is enough, and a larger one
    enough : (k m u v : ℕ) → size q.parents q.count u v ≤ k → size q.parents q.count u v ≤ m → u < q.count → adjacent q.parents v u ≡ true
        → (ask op q k u v).sum ≡ (ask op q m u v).sum
    unfolding ask heard
    enough zero m u v l i hu a = absurd (omega (arith, size_least q.parents q.count grown u v hu a))
    enough (suc k) zero u v l i hu a = absurd (omega (arith, size_least q.parents q.count grown u v hu a))
    enough (suc k) (suc m) u v l i hu a =
        sum_is op q (ask op q k) u v q.count
        ∙ total_same op q (λ c. (hears op q (ask op q k) u c).sum) (λ c. (hears op q (ask op q m) u c).sum) u v q.count hu (le_refl q.count) (λ c hc o.
        let e = others q.parents u v c o in let s = size_less q.parents q.count grown u v hu a c hc e.0 e.1 in
        one c (asks q c u) (enough k m c u (omega arith) (omega arith) hc (adjacent_sym q.parents u c ∙ e.0)))
        ∙ sym (sum_is op q (ask op q m) u v q.count)
      where
        one : (c : ℕ) (b : Bool) → (ask op q k c u).sum ≡ (ask op q m c u).sum → (heard op q b (ask op q k) u c).sum ≡ (heard op q b (ask op q m) u c).sum
        one c true e = e
        one c false e = refl

    ask_log : (k u v : ℕ) → size q.parents q.count u v ≤ k → u < q.count → v < q.count → adjacent q.parents v u ≡ true
        → (asked op q v u (ask op q k u v)).log ≡ visit q.parents q.count (asks q) probes (responses op q) (suc k) u v
    unfolding ask visit
    ask_log zero u v l hu hv a = absurd (omega (arith, size_least q.parents q.count grown u v hu a))
    ask_log (suc k) u v l hu hv a =
        ap (λ t. Probe v u ∷ t) (ap₂ ◌++◌
        (log_is (ask op q k) u v q.count ∙ round_same q.count u hu _ _ (λ w hw. heard_log (ask op q k) (suc k) u v w (λ o r.
        let e = others q.parents u v w o in
        ask_log k w u (omega (arith, size_less q.parents q.count grown u v hu a w hw e.0 e.1)) hw hu (adjacent_sym q.parents u w ∙ e.0))))
        (ap (λ z. Response u v z ∷ []) (enough (suc k) q.count u v l (size_most q.parents q.count grown u v hu hv a) hu a)))

    asked_tour : (k x : ℕ) → q.count ≤ k → x < q.count → (ask op q k x x).log ≡ tour q.parents q.count (asks q) probes (responses op q) k x
    unfolding ask
    asked_tour zero x l hx = absurd (omega arith)
    asked_tour (suc k) x l hx = log_is (ask op q k) x x q.count ∙ round_same q.count x hx _ _ (λ w hw. heard_log (ask op q k) (suc k) x x w (λ o r.
        let a = (others q.parents x x w o).0 in let b = adjacent_sym q.parents x w ∙ a in
        ask_log k w x (omega (arith, sizes_add q.parents q.count grown w x hw hx b, size_least q.parents q.count grown x w hx a)) hw hx b))

    pub combine_tour : (x : ℕ) → x < q.count → (combine op q x).log ≡ tour q.parents q.count (asks q) probes (responses op q) q.count x
    combine_tour x = asked_tour q.count x (le_refl q.count)
