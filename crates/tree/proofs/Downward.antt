-- The pass from the last node down: when a node's turn comes, it has all that is below it.
use mathlib.Core.Path.{◌≡◌, refl, sym, ap, ap₂, ◌∙◌}
use mathlib.Core.Bool.{Bool, true, false, not, ◌&&◌, false≢true, and-false, and-true, or-true, and-eq-true_iff}
use mathlib.Core.Logic.{◌≢◌}
use mathlib.Core.List.{List}
use Prim.Native.Nat.{ℕ, zero, suc, ◌+◌, ◌-◌, ◌<◌, ◌≤◌}
use native.Mathlib.Nat.{le_refl}
use native.Mathlib.Decide.{ℕ_discrete}
use native.Mathlib.Omega.{arith}
use lib.Dec.{eqb, ltb, leb}
use lib.ListN.{get_or, set}
use borrow.Author.Tests.{eqb-true, lt-ltb, le-ltb, le-leb, lt-leb, eq-eqb, ne_eqb, not-true}
use Rattle.tree.specs.Parents.{parent, Grown, InRule, child}
use Rattle.tree.specs.Sides.{below, adjacent, side}
use Rattle.tree.specs.Operation.{pick, aggregate, plus}
use Rattle.tree.specs.Sizes.{size_below, ones, listed}
use Rattle.tree.proofs.Cases.{either, order, lt_or_le}
use Rattle.tree.proofs.Folds.{related, same_nodes, same_where, zeros, pull}
use Rattle.tree.proofs.Below.{below_self, below_root, below_step, below_lt, inherited}
use Rattle.tree.proofs.Children.{child_is, child_low}
use Rattle.tree.proofs.Toward.{adjacent_ne}
use Rattle.tree.proofs.SideLaw.{fan}
use Rattle.tree.proofs.Sizes.{all_ones}
use Rattle.tree.proofs.Listed.{listed_read, listed_same, listed_set}

larger_neighbour : (ps : List ℕ) (i w : ℕ) → (adjacent ps w i && ltb i w) ≡ child ps i w
larger_neighbour ps i w = lt_or_le i w
    (λ l. rw (le-ltb w i (omega arith), lt-ltb i w l) (and-true (eqb (parent ps w) i)))
    (λ l. rw (le-ltb i w l, and-false))

-- what entry i holds when the nodes from c on have had their turns
abbrev pub held : List ℕ → ℕ → ℕ → ℕ → ℕ
held ps n c i = ones n i + aggregate plus (size_below ps n) (λ w. leb c w && child ps i w) n

module _ (ps : List ℕ) (n : ℕ) (grown : Grown ps n) where
  below_child : (u w : ℕ) → u < w → parent ps w ≡ u → (j : ℕ) → j < n → below ps w j ≡ true → below ps u j ≡ true
  below_child u w l e = inherited ps n grown (λ j. below ps w j ≡ true → below ps u j ≡ true) step
    where
      step : (j : ℕ) → j < n → (0 < j → below ps w (parent ps j) ≡ true → below ps u (parent ps j) ≡ true) → below ps w j ≡ true → below ps u j ≡ true
      step zero h r t = absurd (false≢true (sym (ne_eqb 0 w (omega arith)) ∙ sym (below_root ps w) ∙ t))
      step (suc j) h r t =
          let z : 0 < suc j = omega arith in
          rw (below_step ps n grown u (suc j) z h) (either (ℕ_discrete (suc j) w)
          (λ p. rw (ap (parent ps) p ∙ e, below_self ps u) (or-true (eqb (suc j) u)))
          (λ p. rw (r z (rw (below_step ps n grown w (suc j) z h, ne_eqb (suc j) w p) at t)) (or-true (eqb (suc j) u))))

  -- the nodes below u are u and those below its children
  below_law : (u : ℕ) → u < n → size_below ps n u ≡ 1 + aggregate plus (size_below ps n) (child ps u) n
  below_law u hu =
      pull plus (below ps u) (λ j. 1) n u hu (below_self ps u)
      ∙ ap (λ k. 1 + k) (sym (fan ps n grown plus (λ j. 1) u (ltb u) (below ps u) hu agrees)
      ∙ same_nodes plus (λ w. adjacent ps w u && ltb u w) (child ps u) (λ w. aggregate plus (λ j. 1) (side ps w u) n) n (λ w l. larger_neighbour ps u w)
      ∙ same_where plus (child ps u) (λ w. aggregate plus (λ j. 1) (side ps w u) n) (size_below ps n) n (λ w l t.
      rw ((and-eq-true_iff (ltb u w) (eqb (parent ps w) u)).0 t).0))
    where
      agrees : (w j : ℕ) → j < n → side ps w u j ≡ true → adjacent ps w u ≡ true → ltb u w ≡ below ps u j
      agrees w j h s a = order u w
          (λ l. lt-ltb u w l ∙ sym (below_child u w l (eqb-true (parent ps w) u (rw (le-ltb w u (omega arith), lt-ltb u w l) at a)) j h (rw (lt-ltb u w l) at s)))
          (λ e. absurd (adjacent_ne ps w u a (sym e)))
          (λ l. le-ltb u w (omega arith) ∙ sym (not-true (below ps u j) (rw (le-ltb u w (omega arith)) at s)))

  below_most : (u : ℕ) → size_below ps n u ≤ n
  below_most u = omega (arith, all_ones n, related plus plus ◌≤◌ (omega arith) (λ a b c d p q. omega arith) (λ j. pick plus (below ps u j) 1) (λ j. 1) n (λ j l. one (below ps u j)))
    where
      one : (b : Bool) → pick plus b 1 ≤ 1
      one true = omega arith
      one false = omega arith

  -- at first every node holds itself,
  pub held_first : (i : ℕ) → held ps n n i ≡ ones n i
  held_first i = ap (λ k. ones n i + k) (zeros plus (λ w. pick plus (leb n w && child ps i w) (size_below ps n w)) n (λ w l. rw (lt-leb n w l))) ∙ rest (ones n i)
    where
      rest : (k : ℕ) → k + 0 ≡ k
      rest k = omega arith

  -- a node whose children have had their turns holds all that is below it,
  pub held_all : (c d : ℕ) → c ≤ suc d → d < n → held ps n c d ≡ size_below ps n d
  held_all c d l h = rw (lt-ltb d n h) (ap (λ k. 1 + k) (same_nodes plus (λ w. leb c w && child ps d w) (child ps d) (size_below ps n) n (λ w k. lt_or_le d w
      (λ m. rw (le-leb c w (omega arith)))
      (λ m. rw (child_low ps d w m) (and-false (leb c w))))) ∙ sym (below_law d h))

  -- and at last so do all entries: those of no node hold nothing.
  pub held_last : (c i : ℕ) → c ≤ 1 → held ps n c i ≡ size_below ps n i
  held_last c i e = lt_or_le i n
      (λ l. held_all c i (omega arith) l)
      (λ l. let a = zeros plus (λ w. pick plus (leb c w && child ps i w) (size_below ps n w)) n (λ w k. rw (child_low ps i w (omega arith), and-false (leb c w))) in
      let b = zeros plus (λ j. pick plus (below ps i j) 1) n (λ j k. rw (below_lt ps n grown i j k (omega arith))) in
      rw (le-ltb i n l) (omega (arith, a, b)))

  -- no entry ever holds more than all nodes
  pub held_most : (c i : ℕ) → i < n → held ps n c i ≤ n
  held_most c i h = omega (arith, below_most i, held_all 0 i (omega arith) h, fewer)
    where
      one : (a b : Bool) (x w : ℕ) → pick plus (a && b) x ≤ pick plus (leb 0 w && b) x
      one true b x w = rw (le-leb 0 w (omega arith)) (le_refl (pick plus b x))
      one false b x w = omega arith

      fewer : held ps n c i ≤ held ps n 0 i
      fewer =
          let f = related plus plus ◌≤◌ (omega arith) (λ a b c d p q. omega arith)
          (λ w. pick plus (leb c w && child ps i w) (size_below ps n w)) (λ w. pick plus (leb 0 w && child ps i w) (size_below ps n w)) n (λ w l. one (leb c w) (child ps i w) (size_below ps n w) w) in
          omega arith

  -- the turn of d: its parent gets what d holds, no other entry changes
  module _ (d : ℕ) (z : 0 < d) (h : d < n) where
    later : (i w : ℕ) → w ≢ d → (leb d w && child ps i w) ≡ (leb (suc d) w && child ps i w)
    later i w ne = order w d
        (λ l. rw (lt-leb d w l, lt-leb (suc d) w (omega arith)))
        (λ e. absurd (ne e))
        (λ l. rw (le-leb d w (omega arith), le-leb (suc d) w l))

    pub turn_else : (i : ℕ) → i ≢ parent ps d → held ps n (suc d) i ≡ held ps n d i
    turn_else i ne = ap (λ k. ones n i + k) (sym (same_nodes plus (λ w. leb d w && child ps i w) (λ w. leb (suc d) w && child ps i w) (size_below ps n) n (λ w l. either (ℕ_discrete w d)
        (λ e. rw (e, no_child) (and-false (leb d d) ∙ sym (and-false (leb (suc d) d))))
        (λ o. later i w o))))
      where
        no_child : child ps i d ≡ false
        no_child = lt_or_le i d
            (λ l. child_is ps i d l ∙ ne_eqb (parent ps d) i (λ o. ne (sym o)))
            (λ l. child_low ps i d l)

    pub turn_parent : held ps n d (parent ps d) ≡ held ps n (suc d) (parent ps d) + held ps n (suc d) d
    turn_parent =
        let p = parent ps d in
        let l = grown d z h in
        let is : child ps p d ≡ true = child_is ps p d l ∙ eq-eqb p p refl in
        let out = pull plus (λ w. leb d w && child ps p w) (size_below ps n) n d h (rw (le-leb d d (omega arith), is)) in
        let rest = same_nodes plus (λ w. not (eqb w d) && (leb d w && child ps p w)) (λ w. leb (suc d) w && child ps p w) (size_below ps n) n (λ w k. either (ℕ_discrete w d)
        (λ e. rw (eq-eqb w d e, lt-leb (suc d) w (omega arith)))
        (λ o. rw (ne_eqb w d o) (later p w o))) in
        omega (arith, out, rest, held_all (suc d) d (omega arith) h)

-- the pass as a loop makes it: how it begins and ends,
module _ (ps : List ℕ) (n : ℕ) (r : InRule ps n) where
  pub pass_starts : (m : ℕ) → m ≡ n → listed (ones m) 256 ≡ listed (held ps n m) 256
  pass_starts m e = listed_same (ones m) (held ps n m) 256 (λ i l. sym (rw e (held_first ps n r.grown i)))

  pub pass_ends : (c : ℕ) → c ≤ 1 → listed (held ps n c) 256 ≡ listed (size_below ps n) 256
  pass_ends c e = listed_same (held ps n c) (size_below ps n) 256 (λ i l. held_last ps n r.grown c i e)

  -- and its turn, in which c is the next node's number and one more, p its parent, l what is held
  module _ (l : List ℕ) (c p : ℕ) (z : 1 < c) (h : c ≤ n) (now : l ≡ listed (held ps n c) 256) (is : p ≡ parent ps (c - 1)) where
    parent_inside : p < c - 1
    parent_inside = omega (arith, r.grown (c - 1) (omega arith) (omega arith), is)

    reads : (i : ℕ) → i < n → get_or l i 0 ≡ held ps n c i
    reads i k = ap (λ s. get_or s i 0) now ∙ listed_read (held ps n c) 256 i (omega (arith, r.few))

    next_is : suc (c - 1) ≡ c
    next_is = omega arith

    passed : held ps n (c - 1) p ≡ get_or l p 0 + get_or l (c - 1) 0
    passed =
        ap (held ps n (c - 1)) is
        ∙ turn_parent ps n r.grown (c - 1) (omega arith) (omega arith) ∙ ap (λ m. held ps n m (parent ps (c - 1)) + held ps n m (c - 1)) next_is
        ∙ ap₂ ◌+◌ (ap (held ps n c) (sym is) ∙ sym (reads p (omega (arith, parent_inside)))) (sym (reads (c - 1) (omega arith)))

    pub sum_most : get_or l p 0 + get_or l (c - 1) 0 ≤ n
    sum_most = omega (arith, passed, held_most ps n r.grown (c - 1) p (omega (arith, parent_inside)))

    pub pass_turn : set l p (get_or l p 0 + get_or l (c - 1) 0) ≡ listed (held ps n (c - 1)) 256
    pass_turn =
        ap (λ s. set s p (get_or l p 0 + get_or l (c - 1) 0)) now
        ∙ listed_set (held ps n c) (held ps n (c - 1)) 256 p (get_or l p 0 + get_or l (c - 1) 0) (omega (arith, parent_inside, r.few)) passed
        (λ i k d. ap (λ m. held ps n m i) (sym next_is) ∙ turn_else ps n r.grown (c - 1) (omega arith) (omega arith) i (λ o. d (o ∙ sym is)))

pub ruleset pass_laws = (pass_starts, pass_ends, sum_most, pass_turn)
