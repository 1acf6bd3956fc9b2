-- `Links::first` meets its contract: the root's first child, any other node's parent.
use Rattle.walk.proofs.Neighbours.{first_root, first_parent}
use Rattle.aggregate.proofs.links.Links.first.Goals as goal

pub returns-then-u-eq0 : goal.returns-then-u-eq0
returns-then-u-eq0 c = rw c.from.ensures (first_root c.requires.inside c.requires.linked c.if-u-eq0.true)

pub returns : goal.returns
returns c = rw c.from-2.ensures (first_parent c.requires.inside c.requires.linked c.if-u-eq0.false)
