-- The bound is met exactly: the rounds of combine, write, write, and the schedule that stays off.
use mathlib.Core.Path.{refl}
use Prim.Native.Nat.{zero, suc, ◌+◌}
use native.Mathlib.Omega.{arith}
use Rattle.rule.specs.Pair.{next, price, messages, rounds}
use Rattle.rule.specs.Schedules.{combine_off_off, write_off_off, end, stays_off}
use Rattle.rule.specs.Promises.{RoundsCost, RoundsOff}

pub rounds_cost : RoundsCost
unfolding messages price next rounds
rounds_cost zero = refl
rounds_cost (suc n) = omega (arith, rounds_cost n)

pub rounds_off : RoundsOff
unfolding rounds stays_off
rounds_off zero = (0, end, refl, refl)
rounds_off (suc n) = let r = rounds_off n in (2 + (0 + (0 + r.0)), combine_off_off (write_off_off (write_off_off r.1)), r.2, omega (arith, r.3))
