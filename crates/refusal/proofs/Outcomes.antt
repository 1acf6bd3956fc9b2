-- The contract leaves one outcome. It is the function's own contract, as its source states it: `Post` of its `Reads`.
use mathlib.Core.Path.{sym, ◌∙◌}
use Rattle.refusal.specs.Outcomes.{OneResult}
use Rattle.refusal.proofs.U8FromRefusal.from.Reads as from

pub from_once : OneResult from.Post
from_once κ a x y s t p q = p ∙ sym q
