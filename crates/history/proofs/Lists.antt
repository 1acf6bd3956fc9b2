-- The first elements of a list, after one is set.
use mathlib.Core.Path.{◌≡◌, refl, ap}
use mathlib.Core.List.{List, [], ◌∷◌, ◌++◌}
use Prim.Native.Nat.{ℕ, zero, suc, ◌<◌}
use native.Mathlib.Omega.{arith}
use lib.ListN.{length, take, set}

-- the elements up to the one that was set are those before it, and it
pub take_set : {A : Type 0} (l : List A) (k : ℕ) (z : A) → k < length l → take (suc k) (set l k z) ≡ take k l ++ (z ∷ [])
take_set [] k z h = absurd (omega (arith, h))
take_set (x ∷ l) zero z h = refl
take_set (x ∷ l) (suc k) z h = ap (λ r. x ∷ r) (take_set l k z (omega (arith, h)))
