-- `reader::nodes` meets its contract: the nodes before a child are read and right, and each return is a verdict of the format.
use mathlib.Core.Path.{refl, sym, ◌∙◌}
use native.Mathlib.Omega.{arith}
use borrow.Author.Rules.{rules}
use Rattle.table.proofs.Turns.{none_read, near, parent_cut, parent_wrong, parent_read, end_wrong, end_right}
use Rattle.table.proofs.reader.nodes.Goals as goal

pub loop-child-init : goal.loop-child-init
loop-child-init c = (refl, none_read _ _ c.requires)

pub returns-in_err-parent : goal.returns-in_err-parent
returns-in_err-parent c =
    let law = parent_cut _ _ c.requires _ _ _ c.loop-child.invariant.1 c.loop-child-test.true _ c.of_parent-width.ensures in
    search (rules, law)

pub returns-then-child-parent : goal.returns-then-child-parent
returns-then-child-parent c =
    let law = parent_wrong _ _ c.requires _ _ _ c.loop-child.invariant.1 c.loop-child-test.true _ c.of_parent-width.ensures in
    search (rules, law)

pub overflow_add-place : goal.overflow_add-place
overflow_add-place c = omega (arith, near _ _ c.requires _ _ _ c.loop-child.invariant.1 c.loop-child-test.true _ c.of_parent-width.ensures)

pub loop-child-preserved : goal.loop-child-preserved
loop-child-preserved c =
    let law = parent_read _ _ c.requires _ _ _ c.loop-child.invariant.1 c.loop-child-test.true _ c.of_parent-width.ensures in
    (c.loop-child.invariant.0, search (rules, law))

pub returns-then-not-ends : goal.returns-then-not-ends
returns-then-not-ends c = end_wrong _ _ c.requires _ _ _ c.loop-child.invariant.1 c.loop-child-test.false (sym c.ends.ensures ∙ c.if-not-ends.true)

pub returns : goal.returns
returns c = rw c.loop-child.invariant.0 (end_right _ _ c.requires _ _ _ c.loop-child.invariant.1 c.loop-child-test.false (sym c.ends.ensures ∙ c.if-not-ends.false))
