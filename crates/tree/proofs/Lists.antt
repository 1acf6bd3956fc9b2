-- Lists joined to one, and what a test keeps of them.
use mathlib.Core.Path.{◌≡◌, refl, sym, ap, ap₂, ◌∙◌}
use mathlib.Core.Bool.{Bool, true, false}
use mathlib.Core.Logic.{◌≢◌, ◌⊎◌, inl, inr}
use mathlib.Core.List.{List, [], ◌∷◌, ◌++◌, append-nil}
use Prim.Native.Nat.{ℕ, zero, suc, ◌<◌}
use native.Mathlib.Nat.{not-suc-le-zero, le_of_suc-le-suc, eq-or-lt_of_le}
use native.Mathlib.Omega.{arith}
use Rattle.tree.specs.Turns.{joined}
use Rattle.tree.specs.Kept.{when, keep_if, kept}

module _ {M : Type 0} where
  pub joined_same : (F G : ℕ → List M) (n : ℕ) → ((j : ℕ) → j < n → F j ≡ G j) → joined F n ≡ joined G n
  unfolding joined
  joined_same F G zero h = refl
  joined_same F G (suc n) h = ap₂ ◌++◌ (joined_same F G n (λ j l. h j (omega arith))) (h n (omega arith))

  pub joined_none : (F : ℕ → List M) (n : ℕ) → ((j : ℕ) → j < n → F j ≡ []) → joined F n ≡ []
  unfolding joined
  joined_none F zero h = refl
  joined_none F (suc n) h = ap₂ ◌++◌ (joined_none F n (λ j l. h j (omega arith))) (h n (omega arith))

  pub joined_one : (F : ℕ → List M) (n k : ℕ) → k < n → ((j : ℕ) → j < n → j ≢ k → F j ≡ []) → joined F n ≡ F k
  unfolding joined
  joined_one F zero k h z = absurd (not-suc-le-zero h)
  joined_one F (suc n) k h z = go (λ l. joined_one F n k l (λ j i. z j (omega arith))) (eq-or-lt_of_le (le_of_suc-le-suc h))
    where
      go : (k < n → joined F n ≡ F k) → (k ≡ n) ⊎ (k < n) → joined F n ++ F n ≡ F k
      go r (inl e) = ap₂ ◌++◌ (joined_none F n (λ j i. z j (omega arith) (omega arith))) (ap F (sym e))
      go r (inr l) = ap₂ ◌++◌ (r l) (z n (omega arith) (omega arith)) ∙ append-nil (F k)

  module _ (test : M → Bool) where
    pub kept_append : (s t : List M) → kept test (s ++ t) ≡ kept test s ++ kept test t
    unfolding kept
    kept_append [] t = refl
    kept_append (a ∷ s) t = one (test a) (kept test (s ++ t)) (kept test s) (kept test t) (kept_append s t)
      where
        one : (b : Bool) (x y z : List M) → x ≡ y ++ z → keep_if b a x ≡ keep_if b a y ++ z
        one true x y z e = ap (λ l. a ∷ l) e
        one false x y z e = e

    pub kept_joined : (F : ℕ → List M) (n : ℕ) → kept test (joined F n) ≡ joined (λ j. kept test (F j)) n
    unfolding kept joined
    kept_joined F zero = refl
    kept_joined F (suc n) = kept_append (joined F n) (F n) ∙ ap (λ l. l ++ kept test (F n)) (kept_joined F n)

    pub kept_when : (b : Bool) (l : List M) → kept test (when b l) ≡ when b (kept test l)
    unfolding kept
    kept_when true l = refl
    kept_when false l = refl
