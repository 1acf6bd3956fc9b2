-- `pass::every` meets its contract: every place so far passes the test.
use native.Mathlib.Omega.{arith}
use Rattle.tree.proofs.Every.{from_none, from_more}
use Rattle.session.proofs.pass.every.Goals as goal

pub loop-i-init : goal.loop-i-init
loop-i-init g c = (omega arith, (c.requires.ordered, λ t h. from_none _ t))

pub loop-i-preserved : goal.loop-i-preserved
loop-i-preserved g c =
    let i = c.loop-i.i in
    let v = c.loop-i.invariant in
    (omega arith, (omega arith, λ t h. from_more t _ i _ _ v.0 (v.1.1 t h) (h i _ v.0 c.loop-i-test.true c.test-good.ensures)))
