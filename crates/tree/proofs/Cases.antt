-- Proofs by cases: by a decision, by the order of two numbers.
use mathlib.Core.Path.{◌≡◌}
use Prim.Native.Nat.{ℕ, ◌<◌, ◌≤◌}
use native.Mathlib.Decide.{ℕ_discrete, dec_lt}
use native.Mathlib.Omega.{arith}

pub either {ℓ} : {A : Type 0} {X : Type ℓ} → Dec A → (A → X) → (¬ A → X) → X
either (yes a) f g = f a
either (no a) f g = g a

pub order {ℓ} : {X : Type ℓ} (a b : ℕ) → (a < b → X) → (a ≡ b → X) → (b < a → X) → X
order a b f g h = either (dec_lt a b) f (λ p. either (ℕ_discrete a b) g (λ q. h (omega arith)))

pub lt_or_le {ℓ} : {X : Type ℓ} (a b : ℕ) → (a < b → X) → (b ≤ a → X) → X
lt_or_le a b f g = either (dec_lt a b) f (λ p. g (omega arith))
