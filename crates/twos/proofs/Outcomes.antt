-- Each public contract leaves one outcome. It is the function's own contract, as its source states it: `Post` of its `Reads`.
use mathlib.Core.Path.{sym, ◌∙◌}
use Rattle.refusal.specs.Outcomes.{OneResult}
use Rattle.twos.proofs.encode.Reads as encode
use Rattle.twos.proofs.encode32.Reads as encode32
use Rattle.twos.proofs.decode.Reads as decode
use Rattle.twos.proofs.decode32.Reads as decode32

pub encode_once : OneResult encode.Post
encode_once κ a x y s t p q = p ∙ sym q

pub encode32_once : OneResult encode32.Post
encode32_once κ a x y s t p q = p ∙ sym q

pub decode_once : OneResult decode.Post
decode_once κ a x y s t p q = p ∙ sym q

pub decode32_once : OneResult decode32.Post
decode32_once κ a x y s t p q = p ∙ sym q
