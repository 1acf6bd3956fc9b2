-- `Tree::summed` meets its contract: each entry holds its node and what is below those children that have had their turns.
use mathlib.Core.Path.{◌≡◌}
use Rattle.tree.specs.Sizes.{listed}
use Rattle.tree.proofs.Downward.{held}
use Rattle.tree.proofs.Tree.summed.Given as goal

abbrev pub invariant-loop-child : goal.invariant-loop-child
invariant-loop-child l = l.size ≡ listed (held l.self.parents l.self.count l.child) 256
