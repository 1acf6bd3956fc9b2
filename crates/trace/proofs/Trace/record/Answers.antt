-- `record` meets its contract: the messages so far are logged.
use mathlib.Core.Path.{refl}
use native.Mathlib.Omega.{arith}
use Rattle.trace.specs.inner.Traces.{messages_in, noted_all}
use Rattle.trace.proofs.Traced.{noted_next, used_all}
use Rattle.trace.proofs.Trace.record.Goals as goal

pub loop-number-init : goal.loop-number-init
unfolding messages_in noted_all
loop-number-init c = refl

pub loop-number-preserved : goal.loop-number-preserved
loop-number-preserved c =
    noted_next c.used-used.result.now c.loop-number.number-index _ c.decode.ensures _ c.loop-number.invariant c.write.ensures.0 c.write.ensures.1 c.unwrap_or-at.ensures

pub returns : goal.returns
returns c =
    let t = c.args.self.now in
    rw (used_all t.numbers c.used-used.result.now t.len c.loop-number.number-index c.used-used.ensures.0 (omega (arith, c.used-used.ensures.1))) at c.loop-number.invariant
