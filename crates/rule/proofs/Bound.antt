-- The competitive bound of one pair: every step of a schedule pays for what the rule sends and for what the potential rises.
use mathlib.Core.List.{List}
use Prim.Native.Nat.{ℕ, zero, suc, ◌+◌, ◌*◌, ◌≤◌}
use native.Mathlib.Omega.{arith}
use Rattle.rule.specs.Pair.{Request, combine, write, next, price, messages}
use Rattle.rule.specs.Schedules.{Mode, off, on, Schedule, combine_off_off, combine_off_on, combine_on_on, write_off_off, write_on_on, write_on_off, end}
use Rattle.rule.specs.Configurations.{potential}
use Rattle.rule.specs.Promises.{Bound, FiveHalves}

-- at the number k, for each entry of the table
record Paid (k : ℕ) : Type 0 where
  combine_off_off : 2 * price k combine + potential off (next 2 k combine) ≤ 5 * 2 + potential off k
  combine_off_on : 2 * price k combine + potential on (next 2 k combine) ≤ 5 * 2 + potential off k
  combine_on_on : 2 * price k combine + potential on (next 2 k combine) ≤ 5 * 0 + potential on k
  write_off_off : 2 * price k write + potential off (next 2 k write) ≤ 5 * 0 + potential off k
  write_on_on : 2 * price k write + potential on (next 2 k write) ≤ 5 * 1 + potential on k
  write_on_off : 2 * price k write + potential off (next 2 k write) ≤ 5 * 2 + potential on k

paid : (k : ℕ) → Paid k
unfolding price next potential
paid zero = omega arith
paid (suc zero) = omega arith
paid (suc (suc zero)) = omega arith
paid (suc (suc (suc k))) = omega arith

pays : {m : Mode} {l : List Request} {c : ℕ} (k : ℕ) → Schedule m l c → 2 * messages 2 k l ≤ 5 * c + potential m k
unfolding messages next
pays k (combine_off_off s) = omega (arith, pays (next 2 k combine) s, paid k)
pays k (combine_off_on s) = omega (arith, pays (next 2 k combine) s, paid k)
pays k (combine_on_on s) = omega (arith, pays (next 2 k combine) s, paid k)
pays k (write_off_off s) = omega (arith, pays (next 2 k write) s, paid k)
pays k (write_on_on s) = omega (arith, pays (next 2 k write) s, paid k)
pays k (write_on_off s) = omega (arith, pays (next 2 k write) s, paid k)
pays k end = omega arith

pub bound : Bound
bound m k l c s = pays k s

pub five_halves : FiveHalves
unfolding potential
five_halves l c s = omega (arith, pays 0 s)
