-- `spread::is_silent` meets its contract: no neighbour so far holds a lease.
use Rattle.session.specs.Holding.{lease_of}
use Rattle.walk.specs.inner.Telling.{SilentUpTo}
use Rattle.aggregate.specs.inner.Rounds.{Round}
use Rattle.aggregate.proofs.spread.is_silent.Given as goal

abbrev pub invariant-loop-w : goal.invariant-loop-w
invariant-loop-w l = Round l.ground.links.now l.ground.session.now.tree l.x l.w-iterator × SilentUpTo l.ground.session.now.tree.count l.ground.session.now.tree.parents (lease_of l.ground.session.now) l.x l.w-iterator.place
