-- Each public contract leaves one outcome. It is the function's own contract, as its source states it: `Post` of its `Reads`.
use mathlib.Core.Path.{sym, ◌∙◌}
use Rattle.refusal.specs.Outcomes.{OneResult, OneOutcome}
use Rattle.fields.proofs.room.usable_bits.Reads as usable_bits
use Rattle.fields.proofs.get.Reads as get
use Rattle.fields.proofs.put.Reads as put

pub usable_bits_once : OneResult usable_bits.Post
usable_bits_once κ a x y s t p q = p ∙ sym q

pub get_once : OneResult get.Post
get_once κ a x y s t p q = p ∙ sym q

pub put_once : OneOutcome put.Post (λ κ s. s.0.now)
put_once κ a x y s t p q = (p.0 ∙ sym q.0, p.1 ∙ sym q.1)
