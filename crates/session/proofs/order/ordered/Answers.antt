-- `order::ordered` meets its contract: what is kept of the neighbours so far is what the pass keeps, and the first child out of order ends it.
use mathlib.Core.Path.{◌≡◌, sym, ap, ◌∙◌}
use Prim.Native.Nat.{ℕ, ◌-◌, ◌+◌, ◌<◌, min, max}
use native.Mathlib.Omega.{arith}
use Rattle.tree.specs.Every.{every}
use Rattle.tree.specs.Parents.{parent}
use Rattle.tree.proofs.Every.{every_none, every_more, every_fails}
use Rattle.session.specs.inner.Passes.{ordered}
use Rattle.session.proofs.Keeping.{kept_none, kept_more, high_fails, low_fails, both_hold}
use Rattle.session.proofs.order.ordered.Goals as goal
use Rattle.session.proofs.order.ordered.Goals.{After-from-parent}

-- the child k + 1 of a turn
module _ (c : After-from-parent) where
  abbrev k : ℕ
  k = c.loop-child.child - 1

  child : k + 1 ≡ c.loop-child.child
  child = omega (arith, c.loop-child.invariant.0)

  next : c.loop-child.child + 1 - 1 ≡ k + 1
  next = omega (arith, c.loop-child.invariant.0)

  above : c.from-parent.result ≡ parent c.args.tree.now.parents (k + 1)
  above = rw child c.from-parent.ensures

  before : k < c.args.tree.now.count - 1
  before = omega (arith, c.loop-child.invariant.0, c.loop-child-test.true, c.from-child-end.ensures)

pub loop-child-init : goal.loop-child-init
loop-child-init c = (omega arith, (sym (kept_none _ _ _ _), (sym (kept_none _ _ _ _), every_none _)))

pub returns-then-up-child-clause-is : goal.returns-then-up-child-clause-is
unfolding ordered
returns-then-up-child-clause-is c =
    let t = (goal.at.returns-then-up-child-clause-is c).After-from-parent in
    sym (every_fails _ (k t) _ (before t) (high_fails _ _ _ _ (k t) _ c.loop-child.invariant.1.0 (above t) (rw (child t) c.if-up-child.true)))

pub returns-then-low-parent-clause-is : goal.returns-then-low-parent-clause-is
unfolding ordered
returns-then-low-parent-clause-is c =
    let t = (goal.at.returns-then-low-parent-clause-is c).After-from-parent in
    sym (every_fails _ (k t) _ (before t) (low_fails _ _ _ _ (k t) _ c.loop-child.invariant.1.1.0 (above t) (rw (child t) c.if-low-parent.true)))

pub loop-child-preserved : goal.loop-child-preserved
loop-child-preserved c =
    let t = (goal.at.loop-child-preserved c).After-from-parent in
    let v = c.loop-child.invariant in
    rw (next t) (
      omega arith,
      (
        kept_more max _ _ _ _ (k t) _ _ v.1.0 (above t) (rw (child t) c.max.ensures),
        (
          kept_more min _ _ _ _ (k t) _ _ v.1.1.0 (above t) (rw (child t) c.min.ensures),
          every_more _ (k t) v.1.1.1 (both_hold _ _ _ _ _ (k t) _ v.1.0 v.1.1.0 (above t) (rw (child t) c.if-up-child.false) (rw (child t) c.if-low-parent.false)),
        ),
      ),
    )

pub returns-clause-is : goal.returns-clause-is
unfolding ordered
returns-clause-is c =
    let e : c.loop-child.child - 1 ≡ c.args.tree.now.count - 1 = omega (arith, c.from-child-end.ensures) in
    sym (ap (every _) (sym e) ∙ c.loop-child.invariant.1.1.1)
