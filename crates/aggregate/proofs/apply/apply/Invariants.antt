-- `apply::apply` meets its contract: the messages so far are applied, and no count is near its limit.
use Rattle.aggregate.proofs.Hitting.{Done}
use Rattle.aggregate.proofs.apply.apply.Given as goal

abbrev pub invariant-loop-number : goal.invariant-loop-number
invariant-loop-number l = Done l.used l.initial.session l.number-index l.session
