-- Each public contract leaves one outcome. It is the function's own contract, as its source states it: `Post` of its `Reads`.
use mathlib.Core.Path.{◌≡◌, sym, ◌∙◌}
use Rattle.refusal.specs.Outcomes.{OneResult, OneOutcome}
use Rattle.messages.specs.declared.reader.LogReader.{LogReader}
use Rattle.messages.proofs.bits.Reads as bits
use Rattle.messages.proofs.code.Reads as code
use Rattle.messages.proofs.decode.Reads as decode
use Rattle.messages.proofs.write.Reads as write
use Rattle.messages.proofs.read.Reads as read
use Rattle.messages.proofs.reader.LogReader.new.Reads as reader_new
use Rattle.messages.proofs.reader.LogReader.read.Reads as reader_read

pub bits_once : OneResult bits.Post
bits_once κ a x y s t p q = p ∙ sym q

pub code_once : OneResult code.Post
code_once κ a x y s t p q = p ∙ sym q

pub decode_once : OneResult decode.Post
decode_once κ a x y s t p q = p ∙ sym q

pub write_once : OneOutcome write.Post (λ κ s. s.0.now)
write_once κ a x y s t p q = (p.0 ∙ sym q.0, p.1 ∙ sym q.1)

pub read_once : OneResult read.Post
read_once κ a x y s t p q = p ∙ sym q

-- ---- the reader's own functions

-- log and place are all of a reader
same_reader : (a b : LogReader) → a.log ≡ b.log → a.place ≡ b.place → a ≡ b
same_reader a b p q = λ i. record { log = p i; place = q i }

pub reader_new_once : OneResult reader_new.Post
reader_new_once κ a x y s t p q = same_reader x y (p.0 ∙ sym q.0) (p.1 ∙ sym q.1)

pub reader_read_once : OneOutcome reader_read.Post (λ κ s. s.0.now)
reader_read_once κ a x y s t p q =
    let e : x ≡ y = p.0 ∙ sym q.0 in
    (e, same_reader s.0.now t.0.now (p.1 ∙ sym q.1) (cc (p.2, q.2)))
