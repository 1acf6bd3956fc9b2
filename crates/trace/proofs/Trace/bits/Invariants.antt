-- `bits` meets its contract: the widths of the messages so far are added.
use Rattle.std.proofs.Common.{◌≡◌, ◌*◌, ◌≤◌}
use Rattle.messages.specs.Writing.{bits_of_all}
use Rattle.trace.specs.inner.Traces.{messages_in}
use Rattle.trace.proofs.Trace.bits.Given as goal

abbrev pub invariant-loop-number : goal.invariant-loop-number
invariant-loop-number l = (l.bits ≤ 58 * l.number-index) × (l.bits ≡ bits_of_all (messages_in l.used l.number-index))
