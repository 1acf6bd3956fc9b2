-- `entry::all_zero` meets its contract: every entry so far is zero.
use mathlib.Core.Path.{◌≡◌}
use lib.Dec.{eqb}
use Rattle.tree.specs.Every.{every}
use Rattle.tree.specs.Parents.{parent}
use Rattle.tree.proofs.entry.all_zero.Given as goal

abbrev pub invariant-loop-entry : goal.invariant-loop-entry
invariant-loop-entry l = l.good ≡ every (λ j. eqb (parent l.entries j) 0) l.entry-index
