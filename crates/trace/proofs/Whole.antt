-- A trace is logged as a whole: all of its messages fit their records, so that the room decides between all and none.
use mathlib.Core.Path.{◌≡◌, refl, sym, ap, ◌∙◌}
use mathlib.Core.Bool.{Bool, true, false, cond}
use mathlib.Core.List.{List, [], ◌∷◌}
use Prim.Native.Nat.{ℕ, zero, suc, ◌+◌, ◌/◌, ◌%◌, ◌^◌, ◌≤◌, ◌<◌}
use native.Mathlib.Nat.{suc-ne-zero}
use native.Mathlib.Decide.{dec_le}
use native.Mathlib.Omega.{arith}
use lib.Dec.{eqb}
use lib.IntN.{ℤ}
use lib.ListN.{get_or, length}
use lib.Signed.{mag}
use borrow.Author.Tests.{lt-ltb, le-leb, lt-leb}
use Rattle.fields.specs.Usable.{usable_bits}
use Rattle.twos.specs.Twos.{signed, within}
use Rattle.twos.proofs.Signs.{signed_mag}
use Rattle.messages.specs.Records.{bits_of, Sized, AllSized}
use Rattle.messages.specs.Reading.{message_of, decoded}
use Rattle.messages.specs.Writing.{log_after, logged, bits_of_all}
use Rattle.messages.specs.declared.Message.{Message}
use Rattle.messages.specs.declared.Message.TheVariants.{Probe, Response, Update, Release}
use Rattle.messages.proofs.Answers.{answer_next}
use Rattle.messages.proofs.Logs.{log_length_kept}
use Rattle.messages.proofs.Stretches.{sized_append}
use Rattle.refusal.specs.Numbers.{told}
use Rattle.refusal.specs.declared.Refusal.{Refusal}
use Rattle.refusal.specs.declared.Refusal.TheVariants.{NoRoom}
use Rattle.std.specs.Prelude.{Result, Ok, Err}
use Rattle.trace.specs.inner.Traces.{messages_in, logged_of, log_after_all, Writing, writing, noted_all}
use Rattle.trace.specs.Promises.{TraceLoggedExactly, TraceFullExactly, TraceLogKept}

-- ---- every message of a trace fits its record

value_within : (n : ℕ) → n < 2 ^ 40 → within 40 (signed 40 n) ≡ true
value_within n h = lt-ltb (mag (signed 40 n)) (2 ^ 39) (signed_mag 40 (omega arith) n h)

message_sized : (kind a b : ℕ) (z : ℤ) → a < 256 → b < 256 → within 40 z ≡ true → Sized (message_of kind a b z)
unfolding message_of
message_sized kind a b z ha hb h = go (eqb kind 0) (eqb kind 1) (eqb kind 2)
  where
    go : (p r u : Bool) → Sized (cond p (Probe a b) (cond r (Response a b z) (cond u (Update a b z) (Release a b))))
    go true r u = (ha, hb, refl)
    go false true u = (ha, hb, h)
    go false false true = (ha, hb, h)
    go false false false = (ha, hb, refl)

decoded_sized : (n : ℕ) → Sized (decoded n)
unfolding decoded
decoded_sized n =
    message_sized (n / 72057594037927936) (n / 281474976710656 % 256) (n / 1099511627776 % 256) (signed 40 (n % 1099511627776)) (omega arith) (omega arith) (value_within (n % 1099511627776) (omega arith))

pub messages_sized : (ns : List ℕ) (k : ℕ) → AllSized (messages_in ns k)
unfolding messages_in
messages_sized ns zero = tt
messages_sized ns (suc k) = sized_append (messages_in ns k) (decoded (get_or ns k 0) ∷ []) (messages_sized ns k) (decoded_sized (get_or ns k 0), tt)

-- ---- all or none

-- messages that have room and fit are all logged
noted_all_lem : (ms : List Message) (log : List ℕ) (place : ℕ) → place + bits_of_all ms ≤ usable_bits (length log) → AllSized ms → noted_all ms (writing log place) ≡ writing (logged log place ms) (place + bits_of_all ms)
unfolding noted_all logged bits_of_all
noted_all_lem [] log place h sized = ap (writing log) (omega arith)
noted_all_lem (m ∷ ms) log place h (one, all) =
    let w = answer_next (length log) place m (omega arith) one.2 in
    let e : place + (bits_of m + bits_of_all ms) ≡ place + bits_of m + bits_of_all ms = omega arith in
    rw (w, e) (noted_all_lem ms (log_after log place m) (place + bits_of m) (rw (log_length_kept log place (m ∷ [])) (rw e at h)) all)

module _ (n place : ℕ) (ms : List Message) where
  told_next : place + bits_of_all ms ≤ usable_bits n → logged_of n place ms ≡ Ok (place + bits_of_all ms)
  unfolding logged_of
  told_next h = rw (le-leb (place + bits_of_all ms) (usable_bits n) h)

  told_full : usable_bits n < place + bits_of_all ms → logged_of n place ms ≡ Err NoRoom
  unfolding logged_of
  told_full h = rw (lt-leb (place + bits_of_all ms) (usable_bits n) h)

  -- there is no other case
  by_case : (P : Result ℕ Refusal → Type 0) → (place + bits_of_all ms ≤ usable_bits n → P (Ok (place + bits_of_all ms))) → (usable_bits n < place + bits_of_all ms → P (Err NoRoom)) → P (logged_of n place ms)
  by_case P next full = go (dec_le (place + bits_of_all ms) (usable_bits n))
    where
      go : Dec (place + bits_of_all ms ≤ usable_bits n) → P (logged_of n place ms)
      go (yes h) = rw (told_next h) (next h)
      go (no h) = let l : usable_bits n < place + bits_of_all ms = omega arith in rw (told_full l) (full l)

-- the number that is told
abbrev code : ℕ × ℕ → ℕ
code t = t.0

pub trace_logged_exactly : TraceLoggedExactly
trace_logged_exactly n place next ms = (
  by_case n place ms (λ x. told 0 x ≡ (0, next) → (place + bits_of_all ms ≤ usable_bits n) × (next ≡ place + bits_of_all ms))
      (λ h e. (h, sym (ap (λ (t : ℕ × ℕ). t.1) e)))
      (λ h e. absurd (suc-ne-zero 8 (ap code e))),
  λ (h, e). ap (told 0) (told_next n place ms h) ∙ ap (λ (p : ℕ). (0, p)) (sym e),
)

pub trace_full_exactly : TraceFullExactly
trace_full_exactly n place ms = (
  by_case n place ms (λ x. told 0 x ≡ (9, 0) → usable_bits n < place + bits_of_all ms) (λ h e. absurd (suc-ne-zero 8 (sym (ap code e)))) (λ h e. h),
  λ h. ap (told 0) (told_full n place ms h),
)

pub trace_log_kept : TraceLogKept
unfolding log_after_all
trace_log_kept log place ms h = rw (lt-leb (place + bits_of_all ms) (usable_bits (length log)) h)

module _ (log : List ℕ) (place : ℕ) (ms : List Message) where
  pub none_logged : usable_bits (length log) < place + bits_of_all ms → (Err NoRoom ≡ logged_of (length log) place ms) × (log ≡ log_after_all log place ms)
  none_logged h = (sym (told_full (length log) place ms h), sym (trace_log_kept log place ms h))

  pub all_logged : place + bits_of_all ms ≤ usable_bits (length log) → AllSized ms → (log' : List ℕ) (next : ℕ) → writing log' next ≡ noted_all ms (writing log place)
      → (Ok next ≡ logged_of (length log) place ms) × (log' ≡ log_after_all log place ms)
  unfolding log_after_all
  all_logged h sized log' next e =
      let is = e ∙ noted_all_lem ms log place h sized in (
        ap (λ (w : Writing). Ok w.place) is ∙ sym (told_next (length log) place ms h),
        rw (le-leb (place + bits_of_all ms) (usable_bits (length log)) h) (ap (λ (w : Writing). w.log) is),
      )
