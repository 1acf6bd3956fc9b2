-- `record` meets its contract: the messages so far are logged.
use Rattle.std.proofs.Common.{◌≡◌}
use Rattle.trace.specs.inner.Traces.{messages_in, writing, noted_all}
use Rattle.trace.proofs.Trace.record.Given as goal

abbrev pub invariant-loop-number : goal.invariant-loop-number
invariant-loop-number l = writing l.log l.at ≡ noted_all (messages_in l.used l.number-index) (writing l.initial.log l.place)
