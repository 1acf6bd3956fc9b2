-- `entry::grown` meets its contract: every node so far has a smaller parent.
use mathlib.Core.Path.{◌≡◌}
use lib.Dec.{ltb}
use Rattle.tree.specs.inner.Places.{from}
use Rattle.tree.specs.Every.{every}
use Rattle.tree.specs.Parents.{parent}
use Rattle.tree.proofs.entry.grown.Given as goal

abbrev pub invariant-loop-node : goal.invariant-loop-node
invariant-loop-node l = l.good ≡ every (from 1 (λ j. ltb (parent l.parents j) j)) l.node
