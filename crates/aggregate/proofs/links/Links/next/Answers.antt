-- `Links::next` meets its contract: after the parent the first child, after a child the next one.
use Rattle.walk.proofs.Neighbours.{after_parent, after_child}
use Rattle.aggregate.proofs.links.Links.next.Goals as goal

pub returns-then-k-u : goal.returns-then-k-u
returns-then-k-u c = let r = c.requires in rw c.from.ensures (after_parent r.1.inside r.1.linked r.0 (r.1.beside r.0) c.if-k-u.true)

pub returns : goal.returns
returns c = let r = c.requires in rw c.from-2.ensures (after_child r.1.inside r.1.linked r.0 (r.1.beside r.0) c.if-k-u.false)
