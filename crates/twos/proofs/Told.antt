-- From the told number and value back to the answer: only a value is told with 0.
use mathlib.Core.Path.{◌≡◌, ap}
use Prim.Native.Nat.{ℕ}
use native.Mathlib.Nat.{suc-ne-zero}
use native.Mathlib.Omega.{arith}
use lib.IntN.{ℤ, pos}
use Rattle.std.specs.Prelude.{Result, Ok, Err}
use Rattle.refusal.specs.Numbers.{number, told}
use Rattle.refusal.specs.declared.Refusal.{Refusal}
use Rattle.refusal.proofs.Numbers.{numbers_within}

pub never_refused : {A : Type 0} {x y : A} (r : Refusal) → ◌≡◌ {A = ℕ × A} (number r, x) (0, y) → ⊥
never_refused {A} r e = omega (arith, ap (λ (t : ℕ × A). t.0) e, numbers_within r)

pub never_misfit : {A : Type 0} {x y : A} → ◌≡◌ {A = ℕ × A} (11, x) (0, y) → ⊥
never_misfit {A} e = suc-ne-zero 10 (ap (λ (t : ℕ × A). t.0) e)

pub decoded_value : (d : Result ℤ Refusal) (z : ℤ) → told (pos 0) d ≡ (0, z) → d ≡ Ok z
decoded_value (Ok y) z e = ap (λ (t : ℕ × ℤ). Ok t.1) e
decoded_value (Err r) z e = absurd (never_refused r e)
