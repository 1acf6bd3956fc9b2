-- Each public contract leaves one outcome. It is the function's own contract, as its source states it: `Post` of its `Reads`.
use mathlib.Core.Path.{sym, ◌∙◌}
use Rattle.refusal.specs.Outcomes.{OneResult, OneOutcome}
use Rattle.table.proofs.Told.{written_apart}
use Rattle.session.specs.Starting.{zeros}
use Rattle.session.proofs.Told.{started_apart}
use Rattle.session.proofs.Session.fresh.Reads as fresh
use Rattle.session.proofs.Session.load.Reads as load
use Rattle.session.proofs.Session.is_sound.Reads as is_sound
use Rattle.session.proofs.parts.parts_are_sound.Reads as parts_are_sound
use Rattle.session.proofs.Session.write_table.Reads as write_table

pub fresh_once : OneResult fresh.Post
fresh_once κ a x y s t p q = started_apart zeros x y (p ∙ sym q)

pub load_once : OneResult load.Post
load_once κ a x y s t p q = started_apart _ x y (p ∙ sym q)

pub is_sound_once : OneResult is_sound.Post
is_sound_once κ a x y s t p q = p ∙ sym q

pub parts_are_sound_once : OneResult parts_are_sound.Post
parts_are_sound_once κ a x y s t p q = p ∙ sym q

pub write_table_once : OneOutcome write_table.Post (λ κ s. s.1.0.now)
write_table_once κ a x y s t p q = (written_apart x y (p.0 ∙ sym q.0), p.1 ∙ sym q.1)
