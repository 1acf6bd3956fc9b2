-- Each public contract leaves one outcome. It is the function's own contract, as its source states it: `Post` of its `Reads`.
use mathlib.Core.Path.{refl, sym, ◌∙◌}
use Rattle.refusal.specs.Outcomes.{OneResult, OneOutcome}
use Rattle.trace.proofs.Trace.new.Reads as new
use Rattle.trace.proofs.Trace.push.Reads as push
use Rattle.trace.proofs.Trace.log.Reads as log

pub new_once : OneResult new.Post
new_once κ a x y s t p q = p ∙ sym q

pub push_once : OneOutcome push.Post (λ κ s. s.0.now)
push_once κ a x y s t p q = (refl, p ∙ sym q)

pub log_once : OneOutcome log.Post (λ κ s. s.1.0.now)
log_once κ a x y s t p q = (p.0 ∙ sym q.0, p.1 ∙ sym q.1)
