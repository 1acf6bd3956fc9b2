-- How many nodes a side has, and that a walk goes to ever smaller sides.
use mathlib.Core.Path.{◌≡◌, refl, sym, ap, ◌∙◌}
use mathlib.Core.Bool.{Bool, true, false}
use mathlib.Core.Logic.{◌≢◌}
use mathlib.Core.List.{List}
use Prim.Native.Nat.{ℕ, zero, suc, ◌<◌, ◌≤◌}
use native.Mathlib.Nat.{not-suc-le-zero}
use native.Mathlib.Omega.{arith}
use lib.ListN.{get_or, get_or-replicate}
use borrow.Author.Tests.{lt-ltb, ne_eqb}
use Rattle.tree.specs.Parents.{parent, Grown, in_rule}
use Rattle.tree.specs.Sides.{adjacent, below, side, other}
use Rattle.tree.specs.Operation.{fold, pick, plus}
use Rattle.tree.specs.Sizes.{size, sizes}
use Rattle.tree.specs.Promises.{SizesAdd, SizeBelow}
use Rattle.tree.proofs.Below.{below_root}
use Rattle.tree.proofs.Cases.{order}
use Rattle.tree.proofs.Folds.{pull}
use Rattle.tree.proofs.InRule.{in_rule_exactly}
use Rattle.tree.proofs.Listed.{sizes_read}
use Rattle.tree.proofs.Toward.{adjacent_ne, own}
use Rattle.tree.proofs.SideLaw.{both, side_law}

pub all_ones : (n : ℕ) → fold plus (λ j. 1) n ≡ n
all_ones zero = refl
all_ones (suc n) = omega (arith, all_ones n)

pub term_most : (f : ℕ → ℕ) (n k : ℕ) → k < n → f k ≤ fold plus f n
term_most f zero k h = absurd (not-suc-le-zero h)
term_most f (suc n) k h = order k n (λ a. omega (arith, term_most f n k a)) (λ e. omega (arith, ap f e)) (λ a. absurd (omega arith))

pub sizes_add : SizesAdd
sizes_add ps n grown u v hu hv b = both ps n grown plus (λ j. 1) u v (λ o. adjacent_ne ps v u b (sym o)) ∙ all_ones n

pub size_below_lem : SizeBelow
size_below_lem ps n grown i z h = rw (lt-ltb (parent ps i) i (grown i z h))

module _ (ps : List ℕ) (n : ℕ) (grown : Grown ps n) (u v : ℕ) (hu : u < n) (b : adjacent ps v u ≡ true) where
  pub size_least : 1 ≤ size ps n u v
  size_least = rw (pull plus (side ps u v) (λ j. 1) n u hu (own ps n grown u v hu b)) (omega arith)

  pub size_less : (w : ℕ) → w < n → adjacent ps w u ≡ true → v ≢ w → size ps n w u < size ps n u v
  size_less w hw a d = rw (side_law ps n grown ℕ plus (λ j. 1) u v hu b) (
      let t = term_most (λ w. pick plus (other ps u v w) (size ps n w u)) n w hw in
      omega (arith, rw (a, ne_eqb v w d) at t))

-- the root's size tells whether a tree is in rule: it has itself below it, and in a tree out of rule nothing has a size
module _ (ps : List ℕ) (n : ℕ) where
  unsized : in_rule ps n ≡ false → get_or (sizes ps n) 0 0 ≡ 0
  unfolding sizes
  unsized e = rw e (get_or-replicate 256 0 0 0 (omega arith))

  sized : in_rule ps n ≡ true → 1 ≤ get_or (sizes ps n) 0 0
  sized e =
      let r = (in_rule_exactly ps n).0 e in
      let t = term_most (λ j. pick plus (below ps 0 j) 1) n 0 (omega (arith, r.some)) in
      omega (arith, sizes_read ps n r 0 (omega arith), rw (below_root ps 0) at t)

  pub root_none : get_or (sizes ps n) 0 0 ≡ 0 → in_rule ps n ≡ false
  root_none e = go (in_rule ps n) refl
    where
      go : (b : Bool) → in_rule ps n ≡ b → b ≡ false
      go true t = absurd (omega (arith, sized t, e))
      go false t = refl

  pub root_some : get_or (sizes ps n) 0 0 ≢ 0 → in_rule ps n ≡ true
  root_some d = go (in_rule ps n) refl
    where
      go : (b : Bool) → in_rule ps n ≡ b → b ≡ true
      go true t = refl
      go false t = absurd (d (unsized t))
