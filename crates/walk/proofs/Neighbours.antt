-- The links lead from neighbour to neighbour, in turn: the parent first, then the children.
use mathlib.Core.Path.{◌≡◌, refl}
use mathlib.Core.Logic.{◌≢◌}
use mathlib.Core.Bool.{true, false}
use mathlib.Core.List.{List}
use Prim.Native.Nat.{ℕ, ◌+◌, ◌<◌, ◌≤◌}
use native.Mathlib.Nat.{le_refl}
use native.Mathlib.Omega.{arith}
use lib.Dec.{eqb}
use lib.ListN.{get_or}
use borrow.Author.Tests.{eqb-true, lt-ltb, le-ltb, eq-eqb, ne_eqb}
use Rattle.tree.specs.Parents.{parent, child}
use Rattle.tree.specs.Sides.{adjacent}
use Rattle.tree.specs.Turns.{turn}
use Rattle.tree.proofs.Cases.{order}
use Rattle.tree.proofs.Turns.{turn_inside}
use Rattle.tree.proofs.Toward.{adjacent_ne}
use Rattle.tree.proofs.Children.{child_is}
use Rattle.walk.specs.inner.Links.{Found, Linked, neighbour_at, Turned}
use Rattle.walk.proofs.Finding.{found_here, found_from}

-- the candidate j is below u, is u, or is above it

pub near_below : (ps : List ℕ) (u j : ℕ) → j < u → adjacent ps j u ≡ eqb (parent ps u) j
near_below ps u j h = rw (lt-ltb j u h)

pub near_self : (ps : List ℕ) (u j : ℕ) → j ≡ u → adjacent ps j u ≡ false
near_self ps u j e = rw (le-ltb j u (omega arith), le-ltb u j (omega arith))

pub near_above : (ps : List ℕ) (u j : ℕ) → u < j → adjacent ps j u ≡ child ps u j
near_above ps u j h = rw (le-ltb j u (omega arith))

module _ {n : ℕ} {ps first next : List ℕ} {u : ℕ} (inside : u < n) (links : Linked n ps first next) where
  pub first_root : u ≡ 0 → Found n (neighbour_at n ps u) 0 (get_or first 0 0)
  unfolding neighbour_at turn
  first_root e =
      found_from {m = 1} (omega arith) (λ j a b. near_self ps u j (omega arith)) (λ j a. near_above ps u j (omega arith)) (rw e (links.firsts 0 (omega arith)))

  pub first_parent : u ≢ 0 → Found n (neighbour_at n ps u) 0 (parent ps u)
  unfolding neighbour_at turn
  first_parent d =
      let less : parent ps u < u = links.grown u (omega arith) inside in
      found_from {m = parent ps u} (omega arith) (λ j a b. rw (near_below ps u j (omega arith)) (ne_eqb (parent ps u) j (λ q. omega arith))) (λ j a. refl)
      (found_here (omega arith) (rw (near_below ps u (parent ps u) less) (eq-eqb (parent ps u) (parent ps u) refl)))

  module _ {k : ℕ} (place : k < n) (beside : neighbour_at n ps u k ≡ true) where
    pub after_parent : k < u → Found n (neighbour_at n ps u) (k + 1) (get_or first u 0)
    unfolding neighbour_at turn
    after_parent l =
        let is : parent ps u ≡ k = eqb-true (parent ps u) k (rw (near_below ps u k l) at beside) in
        found_from {m = u + 1} (omega arith)
        (λ j a b. order j u (λ h. rw (near_below ps u j h) (ne_eqb (parent ps u) j (λ q. omega arith))) (λ h. near_self ps u j h) (λ h. absurd (omega arith)))
        (λ j a. near_above ps u j (omega arith))
        (links.firsts u inside)

    pub after_child : u ≤ k → Found n (neighbour_at n ps u) (k + 1) (get_or next k 0)
    unfolding neighbour_at turn
    after_child l =
        let differ = adjacent_ne ps k u beside in
        let less : u < k = omega arith in
        let is : parent ps k ≡ u = eqb-true (parent ps k) u (rw (child_is ps u k less) at (rw (near_above ps u k less) at beside)) in
        found_from (le_refl (k + 1)) (λ j a b. absurd (omega arith)) (λ j a. near_above ps u j (omega arith)) (rw is at (links.nexts k (omega arith) place))

-- the neighbour that a way round u comes to is a node of the tree
pub beside_inside : {n : ℕ} {ps : List ℕ} {u k w r : ℕ} → u < n → Turned n ps u k w r → w < n
beside_inside {n} {u = u} {k} i f = rw f.turned (turn_inside n u i k f.place)
