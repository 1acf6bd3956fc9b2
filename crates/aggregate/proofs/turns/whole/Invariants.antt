-- `turns::whole` meets its contract: what is still due comes to what the whole list comes to.
use mathlib.Core.Path.{◌≡◌}
use Rattle.aggregate.specs.Running.{running}
use Rattle.aggregate.proofs.Underway.{Underway}
use Rattle.aggregate.proofs.turns.whole.Given as goal

abbrev pub invariant-loop-index : goal.invariant-loop-index
invariant-loop-index l =
    (l.totals.requests ≡ l.index) × Underway l.initial.session l.list l.initial.answers l.initial.log l.place l.index-end l.at (running l.totals l.session l.answers l.log)
