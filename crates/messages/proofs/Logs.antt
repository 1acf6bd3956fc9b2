-- A log of messages written one behind the other: what is kept, and that it reads back.
use mathlib.Core.Path.{◌≡◌, refl, ap, ◌∙◌}
use mathlib.Core.Bool.{Bool, true, false, cond, ◌&&◌}
use mathlib.Core.List.{List, [], ◌∷◌}
use mathlib.Core.Logic.{inl, inr, ⊎_elim}
use Prim.Native.Nat.{ℕ, ◌+◌, ◌≤◌, ◌<◌}
use native.Mathlib.Omega.{arith}
use lib.ListN.{length}
use Rattle.fields.specs.Bits.{bit}
use Rattle.fields.specs.Fields.{field, put_field}
use Rattle.fields.specs.Usable.{usable_bits}
use Rattle.fields.proofs.Kept.{length_kept, outside_kept, same_field}
use Rattle.fields.proofs.ReadBack.{read_back}
use Rattle.messages.specs.Records.{fits, bits_of, record_of, Sized}
use Rattle.messages.specs.Writing.{room, log_after, logged, bits_of_all}
use Rattle.messages.specs.Reading.{told}
use Rattle.messages.specs.Promises.{LogLengthKept, LogOutsideKept, LogReadsBack}
use Rattle.messages.specs.declared.Message.{Message}
use Rattle.messages.proofs.Widths.{record_fits}
use Rattle.messages.proofs.Entries.{entry_end, found}
use Rattle.messages.proofs.Answers.{log_written}

-- what holds of a log as it was and as the record leaves it holds after the message
kept : (s : List ℕ) (place : ℕ) (m : Message) (P : List ℕ → Type 0) → P s → P (put_field s place (bits_of m) (record_of m)) → P (log_after s place m)
unfolding log_after
kept s place m P old new = go (room (length s) place m && fits m)
  where
    go : (b : Bool) → P (cond b (put_field s place (bits_of m) (record_of m)) s)
    go true = new
    go false = old

after_length : (s : List ℕ) (place : ℕ) (m : Message) → length (log_after s place m) ≡ length s
after_length s place m = kept s place m (λ t. length t ≡ length s) refl (length_kept s place (bits_of m) (record_of m))

pub log_length_kept : LogLengthKept
unfolding logged
log_length_kept s place [] = refl
log_length_kept s place (m ∷ ms) = log_length_kept (log_after s place m) (place + bits_of m) ms ∙ after_length s place m

pub log_outside_kept : LogOutsideKept
unfolding logged bits_of_all
log_outside_kept s place [] k o = refl
log_outside_kept s place (m ∷ ms) k o =
    log_outside_kept (log_after s place m) (place + bits_of m) ms k (⊎_elim (λ (h : k < place). inl (omega arith)) (λ (h : place + (bits_of m + bits_of_all ms) ≤ k). inr (omega arith)) o)
    ∙ kept s place m (λ t. bit t k ≡ bit s k) refl (outside_kept s place (bits_of m) (record_of m) k (⊎_elim (λ h. inl h) (λ (h : place + (bits_of m + bits_of_all ms) ≤ k). inr (omega arith)) o))

-- the first record stands, whatever is written behind it
first_stands : (s : List ℕ) (place : ℕ) (m : Message) (ms : List Message) → Sized m → place + bits_of m ≤ usable_bits (length s)
    → field (logged (log_after s place m) (place + bits_of m) ms) place (bits_of m) ≡ record_of m
first_stands s place m ms ok h =
    let t = log_after s place m in
    same_field (logged t (place + bits_of m) ms) t place (bits_of m) (λ k a b. log_outside_kept t (place + bits_of m) ms k (inl b))
    ∙ rw (log_written s place m h ok.2) (read_back s place (bits_of m) (record_of m) (record_fits m ok) (omega arith))

pub log_reads_back : LogReadsBack
unfolding logged bits_of_all
log_reads_back s place [] ok h = ap told (entry_end s place (place + 0) h (omega arith))
log_reads_back s place (m ∷ ms) (ok, oks) h =
    let t = log_after s place m in
    let a = logged t (place + bits_of m) ms in
    let e : place + (bits_of m + bits_of_all ms) ≡ place + bits_of m + bits_of_all ms = omega arith in
    let i : place + (bits_of m + bits_of_all ms) ≤ usable_bits (length a) = rw (log_length_kept s place (m ∷ ms)) h in (
      place + bits_of m,
      ap told (found a place (place + (bits_of m + bits_of_all ms)) m i (omega arith) ok (first_stands s place m ms ok (omega arith))),
      rw e (log_reads_back t (place + bits_of m) ms oks (rw (← e, after_length s place m) h)),
    )
