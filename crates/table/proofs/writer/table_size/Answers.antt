-- `writer::table_size` meets its contract: the place goes from field to field.
use Prim.Native.Nat.{◌-◌, ◌+◌, suc}
use mathlib.Core.Path.{sym, ap}
use native.Mathlib.Omega.{arith}
use Rattle.table.specs.Layout.{parent_place}
use Rattle.table.proofs.Widths.{long_le, place_zero, place_suc, place_le}
use Rattle.table.proofs.writer.table_size.Goals as goal

pub loop-child-init : goal.loop-child-init
loop-child-init c = (omega arith, (omega arith, sym place_zero))

pub overflow_add-place : goal.overflow_add-place
overflow_add-place c = let k = c.loop-child.child - 1 in omega (arith, long_le k (omega arith), place_le k (omega arith))

pub loop-child-preserved : goal.loop-child-preserved
loop-child-preserved c =
    let k = c.loop-child.child - 1 in
    (omega arith, (omega arith, omega (arith, place_suc k, ap parent_place {x = suc k} {y = c.loop-child.child + 1 - 1} (omega arith))))
