-- `log` meets its contract: nothing is written unless there is room for all.
use Prim.Native.Nat.{min}
use native.Mathlib.Omega.{arith}
use Rattle.trace.specs.inner.Traces.{messages_of}
use Rattle.trace.proofs.Whole.{messages_sized, none_logged, all_logged}
use Rattle.trace.proofs.Trace.log.Goals as goal

pub returns-then-end-place : goal.returns-then-end-place
returns-then-end-place c =
    let t = c.args.self.now in
    none_logged c.args.log.now c.args.place (messages_of t.numbers t.len) (omega (arith, c.usable_bits-end.ensures))

pub returns-then-end-place-2 : goal.returns-then-end-place-2
returns-then-end-place-2 c =
    let t = c.args.self.now in
    none_logged c.args.log.now c.args.place (messages_of t.numbers t.len) (omega (arith, c.bits.ensures, c.usable_bits-end.ensures))

pub returns : goal.returns
returns c =
    let t = c.args.self.now in
    all_logged c.args.log.now c.args.place (messages_of t.numbers t.len) (omega (arith, c.bits.ensures, c.usable_bits-end.ensures)) (messages_sized t.numbers (min t.len 510)) _ _ c.«record».ensures
