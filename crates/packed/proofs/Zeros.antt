-- Bits that read 0: those of zero bytes, and those past the end.
use mathlib.Core.Path.{◌≡◌, refl}
use mathlib.Core.List.{List}
use Prim.Native.Nat.{ℕ, zero, suc, ◌+◌, ◌*◌, ◌/◌, ◌≤◌}
use native.Mathlib.Nat.{zero-div}
use native.Mathlib.Omega.{arith}
use lib.ListN.{length, get_or, replicate, get_or-eq_default}
use Rattle.fields.specs.Bits.{weight, digit, bit}
use Rattle.fields.specs.Fields.{field}

pub zeros_at : (n i : ℕ) → get_or {A = ℕ} (replicate n 0) i 0 ≡ 0
zeros_at zero i = refl
zeros_at (suc n) zero = refl
zeros_at (suc n) (suc i) = zeros_at n i

pub zeros_field : (n place w : ℕ) → field (replicate n 0) place w ≡ 0
unfolding field bit digit
zeros_field n place zero = refl
zeros_field n place (suc w) = rw (zeros_field n place w, zeros_at n ((place + w) / 8), zero-div (weight (place + w)))

pub past_zero : (s : List ℕ) (k : ℕ) → 8 * length s ≤ k → bit s k ≡ 0
unfolding bit digit
past_zero s k h = rw (get_or-eq_default s 0 {n = k / 8} (omega arith), zero-div (weight k))
