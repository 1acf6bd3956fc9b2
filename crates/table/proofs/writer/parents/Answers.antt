-- `writer::parents` meets its contract: with the parents put that are still to come, the bytes are what they are to be.
use borrow.Author.Rules.{rules}
use Rattle.table.proofs.Stores.{none_stored, one_stored}
use Rattle.table.proofs.writer.parents.Goals as goal

pub loop-child-init : goal.loop-child-init
loop-child-init c = none_stored _ _ _ c.requires.0 c.requires.1.0

pub loop-child-preserved : goal.loop-child-preserved
loop-child-preserved c =
    one_stored _ _ _ c.requires.0 c.requires.1.0 _ _ _ c.loop-child.invariant (rw c.from-child-end.ensures at c.loop-child-test.true) _ c.of_parent-width.ensures
    c.requires.1.1.0 c.requires.1.1.1 _ (search rules)
