-- `bits` meets its contract: the widths of the messages so far are added.
use mathlib.Core.Path.{refl}
use Prim.Native.Nat.{◌≤◌}
use native.Mathlib.Omega.{arith}
use Rattle.messages.specs.Records.{kind_of}
use Rattle.messages.specs.Writing.{bits_of_all}
use Rattle.messages.proofs.Widths.{width_bounds}
use Rattle.trace.specs.inner.Traces.{messages_in}
use Rattle.trace.proofs.Traced.{bits_next, used_all}
use Rattle.trace.proofs.Trace.bits.Goals as goal
use Rattle.trace.proofs.Trace.bits.Goals.{After-bits-bits}

-- a record has at most 58 bits
at_most : (c : After-bits-bits) → c.bits-bits.result ≤ 58
at_most c = omega (arith, c.bits-bits.ensures, width_bounds (kind_of c.decode.result))

pub loop-number-init : goal.loop-number-init
unfolding messages_in bits_of_all
loop-number-init c = (omega arith, refl)

pub overflow_add-bits : goal.overflow_add-bits
overflow_add-bits c = record { fits = omega (arith, at_most (goal.at.overflow_add-bits c).After-bits-bits, c.used-used.ensures.1) }

pub loop-number-preserved : goal.loop-number-preserved
loop-number-preserved c = (
  omega (arith, at_most (goal.at.loop-number-preserved c).After-bits-bits),
  bits_next c.used-used.result.now c.loop-number.number-index _ c.decode.ensures _ _ c.loop-number.invariant.1 c.bits-bits.ensures,
)

pub returns : goal.returns
returns c =
    let t = c.args.self.now in
    rw (used_all t.numbers c.used-used.result.now t.len c.loop-number.number-index c.used-used.ensures.0 (omega (arith, c.used-used.ensures.1))) at c.loop-number.invariant.1
