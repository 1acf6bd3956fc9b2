-- The rule's number after one combine, which raises a pair, and after one write, which lowers it.
use mathlib.Core.Path.{◌≡◌, refl}
use Prim.Native.Nat.{ℕ, zero, suc, ◌-◌}
use native.Mathlib.Omega.{arith}
use lib.ListN.{replicate}
use Rattle.rule.specs.Pair.{combine, write, next, number_after}

pub after_combine_lem : (k : ℕ) → number_after 2 k (replicate 1 combine) ≡ 2
unfolding number_after next
after_combine_lem k = refl

pub after_write_lem : (k : ℕ) → number_after 2 k (replicate 1 write) ≡ k - 1
unfolding number_after next
after_write_lem zero = refl
after_write_lem (suc k) = omega arith
