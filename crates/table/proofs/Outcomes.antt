-- Each public contract leaves one outcome. It is the function's own contract, as its source states it: `Post` of its `Reads`.
use mathlib.Core.Path.{sym, ◌∙◌}
use Rattle.refusal.specs.Outcomes.{OneResult, OneOutcome}
use Rattle.table.proofs.Told.{reading_apart, written_apart}
use Rattle.table.proofs.read.Reads as read
use Rattle.table.proofs.write.Reads as write

pub read_once : OneResult read.Post
read_once κ a x y s t p q = reading_apart x y (p ∙ sym q)

pub write_once : OneOutcome write.Post (λ κ s. s.1.0.now)
write_once κ a x y s t p q = (written_apart x y (p.0 ∙ sym q.0), p.1 ∙ sym q.1)
