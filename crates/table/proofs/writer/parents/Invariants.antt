-- `writer::parents` meets its contract: with the parents put that are still to come, the bytes are what they are to be.
use Rattle.table.proofs.Stores.{Stored}
use Rattle.table.proofs.writer.parents.Given as goal

abbrev pub invariant-loop-child : goal.invariant-loop-child
invariant-loop-child l = Stored l.initial.out l.tree.parents l.tree.count l.out l.place l.child
