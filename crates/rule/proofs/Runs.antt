-- The number after a run of combines, and after a run of writes.
use mathlib.Core.Path.{◌≡◌, refl}
use Prim.Native.Nat.{ℕ, zero, suc, ◌-◌, ◌<◌}
use native.Mathlib.Omega.{arith}
use lib.ListN.{replicate}
use Rattle.rule.specs.Pair.{combine, write, next, number_after}
use Rattle.rule.specs.Promises.{Granted, BrokenExactly}

pub granted : Granted
unfolding number_after next
granted b k zero h = absurd (omega arith)
granted b k (suc n) h = again n
  where
    again : (n : ℕ) → number_after b b (replicate n combine) ≡ b
    again zero = refl
    again (suc n) = again n

pub none_changes : (b k n : ℕ) → n < 1 → number_after b k (replicate n combine) ≡ k
unfolding number_after
none_changes b k zero h = refl
none_changes b k (suc n) h = absurd (omega arith)

pub number_writes : (b k n : ℕ) → number_after b k (replicate n write) ≡ k - n
unfolding number_after next
number_writes b k zero = omega arith
number_writes b zero (suc n) = omega (arith, number_writes b zero n)
number_writes b (suc k) (suc n) = omega (arith, number_writes b k n)

pub broken_exactly : BrokenExactly
unfolding number_after next
broken_exactly b k n = (λ e. omega (arith, number_writes b b n), λ h. omega (arith, number_writes b b n))
