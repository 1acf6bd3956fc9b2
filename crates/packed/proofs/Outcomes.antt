-- The public contract leaves one outcome. It is the function's own contract, as its source states it: `Post` of its `Reads`.
use mathlib.Core.Path.{sym, ◌∙◌}
use Rattle.refusal.specs.Outcomes.{OneResult}
use Rattle.packed.proofs.ends.Reads as ends

pub ends_once : OneResult ends.Post
ends_once κ a x y s t p q = p ∙ sym q
