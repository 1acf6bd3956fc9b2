-- `raise::raise` meets its contract: the numbers are raised, and nothing else is changed.
use Rattle.aggregate.proofs.Raising.{raised_in}
use Rattle.aggregate.proofs.raise.raise.Goals as goal

pub climb-requires : goal.climb-requires
climb-requires c = rw c.from-count.ensures c.requires

pub returns : goal.returns
returns c = raised_in c.args.session.now c.args.x (rw c.from-count.ensures at c.climb.ensures.0) (rw c.from-count.ensures at c.climb.ensures.1)
