-- Each public contract leaves one outcome. It is the function's own contract, as its source states it: `Post` of its `Reads`.
use mathlib.Core.Path.{sym, ◌∙◌}
use Rattle.refusal.specs.Outcomes.{OneResult}
use Rattle.rule.proofs.Rule.after_combines.Reads as after_combines
use Rattle.rule.proofs.Rule.after_writes.Reads as after_writes

pub after_combines_once : OneResult after_combines.Post
after_combines_once κ a x y s t p q = p ∙ sym q

pub after_writes_once : OneResult after_writes.Post
after_writes_once κ a x y s t p q = p ∙ sym q
