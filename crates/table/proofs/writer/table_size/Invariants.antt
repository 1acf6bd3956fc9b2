-- `writer::table_size` meets its contract: the place goes from field to field.
use Prim.Native.Nat.{◌-◌, ◌≤◌}
use mathlib.Core.Path.{◌≡◌}
use Rattle.table.specs.Layout.{parent_place}
use Rattle.table.proofs.writer.table_size.Given as goal

abbrev pub invariant-loop-child : goal.invariant-loop-child
invariant-loop-child l = (1 ≤ l.child) × ((l.child ≤ l.count) × (l.place ≡ parent_place (l.child - 1)))
