-- `Links::of` meets its contract: the nodes from i on are linked.
use Rattle.walk.proofs.Linking.{Linking}
use Rattle.aggregate.proofs.links.Links.of.Given as goal

abbrev pub invariant-loop-i : goal.invariant-loop-i
invariant-loop-i l = Linking l.tree.count l.tree.parents l.first l.next l.i
