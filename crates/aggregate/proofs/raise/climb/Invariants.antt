-- `raise::climb` meets its contract: the nodes from i on are raised.
use Rattle.aggregate.proofs.Raising.{Climbed}
use Rattle.aggregate.proofs.raise.climb.Given as goal

abbrev pub invariant-loop-i : goal.invariant-loop-i
invariant-loop-i l = Climbed l.parents l.count l.x l.initial.up l.initial.down l.up l.down l.at l.i
