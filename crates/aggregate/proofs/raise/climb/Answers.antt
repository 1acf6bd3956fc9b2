-- `raise::climb` meets its contract: the nodes from i on are raised.
use mathlib.Core.Path.{◌≡◌, ◌∙◌}
use Prim.Native.Nat.{suc, ◌-◌}
use native.Mathlib.Omega.{arith}
use Rattle.aggregate.proofs.ByRule.{after_combine_lem}
use Rattle.aggregate.proofs.Raising.{climbed_none, climbed_on, climbed_off, climbed_all}
use Rattle.aggregate.proofs.raise.climb.Goals as goal

pub loop-i-init : goal.loop-i-init
loop-i-init c = climbed_none c.requires

pub loop-i-preserved-then-i-at : goal.loop-i-preserved-then-i-at
loop-i-preserved-then-i-at c =
    let l = c in
    let e : l.loop-i.i ≡ suc (l.loop-i.i - 1) = omega arith in
    rw (c.from-at.ensures, c.after_combines.ensures ∙ after_combine_lem _) (climbed_on l.requires l.loop-i.invariant e (omega arith) c.if-i-at.true)

pub loop-i-preserved : goal.loop-i-preserved
loop-i-preserved c =
    let l = c in
    let e : l.loop-i.i ≡ suc (l.loop-i.i - 1) = omega arith in
    rw (c.after_combines-else-i-at.ensures ∙ after_combine_lem _) (climbed_off l.requires l.loop-i.invariant e (omega arith) c.if-i-at.false)

pub returns : goal.returns
returns c = climbed_all c.requires c.loop-i.invariant (omega arith)
