-- What writing a message answers, and exactly where.
use mathlib.Core.Path.{◌≡◌, refl, sym, ap, ◌∙◌}
use mathlib.Core.Bool.{Bool, true, false, and-false}
use mathlib.Core.List.{List}
use mathlib.Core.Logic.{inl, inr, ⊎_elim}
use Prim.Native.Nat.{ℕ, ◌+◌, ◌^◌, ◌≤◌, ◌<◌}
use native.Mathlib.Nat.{suc-ne-zero}
use native.Mathlib.Decide.{dec_le}
use native.Mathlib.Omega.{arith}
use lib.ListN.{length}
use borrow.Author.Tests.{le-leb, lt-leb}
use Rattle.fields.specs.Fields.{put_field}
use Rattle.fields.specs.Usable.{usable_bits, put_at}
use Rattle.fields.proofs.Rooms.{taken_is_put}
use Rattle.messages.specs.Records.{kind_of, fits, bits_of, record_of, coded, coded_of}
use Rattle.messages.specs.Writing.{room, recorded_of, log_after}
use Rattle.refusal.specs.Numbers.{told}
use Rattle.refusal.specs.declared.Refusal.{Refusal}
use Rattle.refusal.specs.declared.Refusal.TheVariants.{NoRoom, Misfit}
use Rattle.std.specs.Prelude.{Result, Ok, Err}
use Rattle.messages.specs.Promises.{CodedExactly, UncodedExactly, RecordedExactly, FullExactly, MisfitExactly, RefusedLogKept}
use Rattle.messages.specs.declared.Message.{Message}
use Rattle.messages.proofs.Widths.{width_bounds}

module _ (n place : ℕ) (m : Message) where
  pub answer_next : place + bits_of m ≤ usable_bits n → fits m ≡ true → recorded_of n place m ≡ Ok (place + bits_of m)
  unfolding recorded_of
  answer_next h f = rw (le-leb (place + bits_of m) (usable_bits n) h, f)

  pub answer_misfit : place + bits_of m ≤ usable_bits n → fits m ≡ false → recorded_of n place m ≡ Err Misfit
  unfolding recorded_of
  answer_misfit h f = rw (le-leb (place + bits_of m) (usable_bits n) h, f)

  pub answer_full : usable_bits n < place + bits_of m → recorded_of n place m ≡ Err NoRoom
  unfolding recorded_of
  answer_full h = rw (lt-leb (place + bits_of m) (usable_bits n) h)

  -- there are no other cases
  by_case : (P : Result ℕ Refusal → Type 0)
      → (place + bits_of m ≤ usable_bits n → fits m ≡ true → P (Ok (place + bits_of m)))
      → (place + bits_of m ≤ usable_bits n → fits m ≡ false → P (Err Misfit))
      → (usable_bits n < place + bits_of m → P (Err NoRoom))
      → P (recorded_of n place m)
  by_case P next misfit full = go (dec_le (place + bits_of m) (usable_bits n)) (fits m) refl
    where
      go : Dec (place + bits_of m ≤ usable_bits n) → (b : Bool) → fits m ≡ b → P (recorded_of n place m)
      go (yes h) true f = rw (answer_next h f) (next h f)
      go (yes h) false f = rw (answer_misfit h f) (misfit h f)
      go (no h) b f = let l : usable_bits n < place + bits_of m = omega arith in rw (answer_full l) (full l)

pub log_written : (s : List ℕ) (place : ℕ) (m : Message) → place + bits_of m ≤ usable_bits (length s) → fits m ≡ true → log_after s place m ≡ put_field s place (bits_of m) (record_of m)
unfolding log_after
log_written s place m h f = rw (le-leb (place + bits_of m) (usable_bits (length s)) h, f)

-- a record that is put as a field of the usable log is written
pub log_put : (s : List ℕ) (place : ℕ) (m : Message) → place + bits_of m ≤ usable_bits (length s) → fits m ≡ true → record_of m < 2 ^ bits_of m → put_at s place (bits_of m) (record_of m) ≡ log_after s place m
log_put s place m h f l = taken_is_put s place (bits_of m) (record_of m) (omega (arith, width_bounds (kind_of m))) h l ∙ sym (log_written s place m h f)

pub refused_log_kept : RefusedLogKept
unfolding log_after
refused_log_kept s place m =
    ⊎_elim (λ (h : usable_bits (length s) < place + bits_of m). rw (lt-leb (place + bits_of m) (usable_bits (length s)) h)) (λ (f : fits m ≡ false). rw (f, and-false (room (length s) place m)))

pub log_full : (s : List ℕ) (place : ℕ) (m : Message) → usable_bits (length s) < place + bits_of m → log_after s place m ≡ s
log_full s place m h = refused_log_kept s place m (inl h)

pub log_misfit : (s : List ℕ) (place : ℕ) (m : Message) → fits m ≡ false → log_after s place m ≡ s
log_misfit s place m f = refused_log_kept s place m (inr f)

-- the number that is told
abbrev code : ℕ × ℕ → ℕ
code t = t.0

pub recorded_exactly : RecordedExactly
recorded_exactly n place next m = (
  by_case n place m (λ x. told 0 x ≡ (0, next) → (place + bits_of m ≤ usable_bits n) × (fits m ≡ true) × (next ≡ place + bits_of m))
      (λ h f e. (h, f, sym (ap (λ (t : ℕ × ℕ). t.1) e)))
      (λ h f e. absurd (suc-ne-zero 10 (ap code e)))
      (λ h e. absurd (suc-ne-zero 8 (ap code e))),
  λ (h, f, e). ap (told 0) (answer_next n place m h f) ∙ ap (λ (p : ℕ). (0, p)) (sym e),
)

pub full_exactly : FullExactly
full_exactly n place m = (
  by_case n place m (λ x. told 0 x ≡ (9, 0) → usable_bits n < place + bits_of m)
      (λ h f e. absurd (suc-ne-zero 8 (sym (ap code e))))
      (λ h f e. let y : 11 ≡ 9 = ap code e in omega arith)
      (λ h e. h),
  λ h. ap (told 0) (answer_full n place m h),
)

pub misfit_exactly : MisfitExactly
misfit_exactly n place m = (
  by_case n place m (λ x. told 0 x ≡ (11, 0) → (place + bits_of m ≤ usable_bits n) × (fits m ≡ false))
      (λ h f e. absurd (suc-ne-zero 10 (sym (ap code e))))
      (λ h f e. (h, f))
      (λ h e. let y : 9 ≡ 11 = ap code e in absurd (omega arith)),
  λ (h, f). ap (told 0) (answer_misfit n place m h f),
)

-- ---- a message as a number

module _ (m : Message) where
  pub answer_coded : fits m ≡ true → coded_of m ≡ Ok (coded m)
  unfolding coded_of
  answer_coded f = rw f

  pub answer_uncoded : fits m ≡ false → coded_of m ≡ Err Misfit
  unfolding coded_of
  answer_uncoded f = rw f

  -- there are no other cases
  pub by_fit : (P : Result ℕ Refusal → Type 0) → (fits m ≡ true → P (Ok (coded m))) → (fits m ≡ false → P (Err Misfit)) → P (coded_of m)
  by_fit P number misfit = go (fits m) refl
    where
      go : (b : Bool) → fits m ≡ b → P (coded_of m)
      go true f = rw (answer_coded f) (number f)
      go false f = rw (answer_uncoded f) (misfit f)

pub coded_exactly : CodedExactly
coded_exactly m n = (
  by_fit m (λ x. told 0 x ≡ (0, n) → (fits m ≡ true) × (n ≡ coded m)) (λ f e. (f, sym (ap (λ (t : ℕ × ℕ). t.1) e))) (λ f e. absurd (suc-ne-zero 10 (ap code e))),
  λ (f, e). ap (told 0) (answer_coded m f) ∙ ap (λ (k : ℕ). (0, k)) (sym e),
)

pub uncoded_exactly : UncodedExactly
uncoded_exactly m = (
  by_fit m (λ x. told 0 x ≡ (11, 0) → fits m ≡ false) (λ f e. absurd (suc-ne-zero 10 (sym (ap code e)))) (λ f e. f),
  λ f. ap (told 0) (answer_uncoded m f),
)
