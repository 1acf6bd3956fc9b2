-- `reader::nodes` meets its contract: the nodes before a child are read and right.
use mathlib.Core.Path.{◌≡◌}
use Rattle.table.proofs.Turns.{Standing}
use Rattle.table.proofs.reader.nodes.Given as goal

abbrev pub invariant-loop-child : goal.invariant-loop-child
invariant-loop-child l = (l.tree.count ≡ l.count) × Standing l.bytes l.count l.tree.parents l.place l.child
