-- `apply::apply` meets its contract: the messages so far are applied, and no count is near its limit.
use mathlib.Core.Path.{◌≡◌, ap, ◌∙◌}
use Rattle.std.specs.Prelude.{min, take}
use Rattle.std.proofs.lemmas.Grind.{common_steps}
use native.Mathlib.Omega.{arith}
use Rattle.trace.proofs.Traced.{used_all}
use Rattle.aggregate.proofs.Hitting.{done_none, done_more, step_up, step_down}
use Rattle.mechanism.specs.Requests.{links_of}
use Rattle.aggregate.specs.inner.Afters.{paired}
use Rattle.aggregate.proofs.apply.apply.Goals as goal
use Rattle.aggregate.proofs.apply.apply.Goals.{then-v-u, else-v-u}

pub loop-number-init : goal.loop-number-init
loop-number-init c = done_none _ _ c.requires

pub loop-number-preserved : goal.loop-number-preserved
loop-number-preserved c =
    let t = c.loop-number.session in
    let l = links_of t in
    let d = done_more c.loop-number.invariant c.decode-message.result c.decode-message.ensures in
    elim c.if-v-u.branch [
      | then-v-u w ↦ d _ (w.session-is ∙ ap (paired t) (step_up l _ _ _ _ c.ends-u.ensures.0.0 c.ends-u.ensures.1.0 w.if-v-u.true w.hit.ensures))
      | else-v-u w ↦ d _ (w.session-is ∙ ap (paired t) (step_down l _ _ _ _ c.ends-u.ensures.0.0 c.ends-u.ensures.1.0 w.if-v-u.false w.hit-else-v-u.ensures))
    ]

pub returns : goal.returns
returns c =
    let t = c.args.trace.now in
    let k : c.loop-number.number-index ≡ min t.len 510 = grind (arith, common_steps) in
    rw (used_all t.numbers (take c.min.result t.numbers) t.len c.loop-number.number-index (ap (λ n. take n t.numbers) c.min.ensures) k) at c.loop-number.invariant.is
