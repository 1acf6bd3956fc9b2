-- The other neighbours of a node, and how many nodes lie beyond them.
use mathlib.Core.Path.{◌≡◌, refl, sym, ◌∙◌}
use mathlib.Core.Bool.{Bool, true, false, not, ◌&&◌, and-eq-true_iff}
use mathlib.Core.Logic.{◌≢◌}
use mathlib.Core.List.{List}
use Prim.Native.Nat.{ℕ, zero, suc, ◌+◌, ◌*◌, ◌≤◌, ◌<◌}
use native.Mathlib.Nat.{mul-add}
use native.Mathlib.Omega.{arith}
use lib.Dec.{eqb}
use borrow.Author.Tests.{eqb-false, ne_eqb, not-true}
use Rattle.tree.specs.Parents.{Grown}
use Rattle.tree.specs.Sides.{adjacent, other}
use Rattle.tree.specs.Operation.{fold, pick, aggregate, plus}
use Rattle.tree.specs.Sizes.{size}
use Rattle.tree.proofs.Cases.{lt_or_le}
use Rattle.tree.proofs.Folds.{related}
use Rattle.tree.proofs.Toward.{adjacent_ne}
use Rattle.tree.proofs.SideLaw.{whole_law}
use Rattle.tree.proofs.Sizes.{all_ones, sizes_add}

-- what it takes to be one
pub others : (ps : List ℕ) (u v w : ℕ) → other ps u v w ≡ true → (adjacent ps w u ≡ true) × (v ≢ w)
others ps u v w t =
    let o = (and-eq-true_iff (adjacent ps w u) (not (eqb v w))).0 t in
    (o.0, eqb-false v w (not-true (eqb v w) o.1))

-- from x itself, which comes from nowhere, every neighbour is one
pub all_others : (ps : List ℕ) (x w : ℕ) → other ps x x w ≡ adjacent ps w x
all_others ps x w = go (adjacent ps w x) refl
  where
    go : (b : Bool) → adjacent ps w x ≡ b → (b && not (eqb x w)) ≡ b
    go true e = rw (ne_eqb x w (λ o. adjacent_ne ps w x e (sym o)))
    go false e = refl

-- sums of terms that are at most c times those of another sum, and the first terms of a sum
pub fold_most : (c : ℕ) (f g : ℕ → ℕ) (n : ℕ) → ((j : ℕ) → j < n → f j ≤ c * g j) → fold plus f n ≤ c * fold plus g n
fold_most c = related plus plus (λ a b. a ≤ c * b) (omega arith) (λ a b d e h k. omega (arith, mul-add c d e))

pub fold_first : (f : ℕ → ℕ) (k n : ℕ) → k ≤ n → fold plus f k ≤ fold plus f n
fold_first f k zero l = let e : k ≡ 0 = omega arith in rw e (omega arith)
fold_first f k (suc n) l = lt_or_le k (suc n)
    (λ h. omega (arith, fold_first f k n (omega arith)))
    (λ h. let e : k ≡ suc n = omega arith in rw e (omega arith))

module _ (ps : List ℕ) (n : ℕ) (grown : Grown ps n) where
  pub size_most : (u v : ℕ) → u < n → v < n → adjacent ps v u ≡ true → size ps n u v ≤ n
  size_most u v hu hv a = omega (arith, sizes_add ps n grown u v hu hv a)

  -- u and the sides of those of its neighbours that pass a test are at most all nodes
  pub around : (test : ℕ → Bool) (u : ℕ) → u < n → 1 + aggregate plus (λ w. size ps n w u) (λ w. adjacent ps w u && test w) n ≤ n
  around test u hu =
      let e = sym (all_ones n) ∙ whole_law ps n grown ℕ plus (λ j. 1) u hu in
      omega (arith, e, fold_most 1 (λ w. pick plus (adjacent ps w u && test w) (size ps n w u)) (λ w. pick plus (adjacent ps w u) (size ps n w u)) n (λ w h. one (adjacent ps w u) (test w) (size ps n w u)))
    where
      one : (a b : Bool) (k : ℕ) → pick plus (a && b) k ≤ 1 * pick plus a k
      one true true k = omega arith
      one true false k = omega arith
      one false b k = omega arith

  -- u and the sides of its other neighbours are at most all nodes
  pub beyond : (u v : ℕ) → u < n → 1 + aggregate plus (λ w. size ps n w u) (other ps u v) n ≤ n
  beyond u v hu = around (λ w. not (eqb v w)) u hu
