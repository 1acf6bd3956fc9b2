-- What is found where a record starts, as the code finds it, and what the reader answers then.
use mathlib.Core.Path.{◌≡◌, refl, sym, ap, ◌∙◌}
use mathlib.Core.Bool.{Bool, true, false, cond}
use mathlib.Core.List.{List}
use Prim.Native.Nat.{ℕ, ◌+◌, ◌-◌, ◌*◌, ◌^◌, ◌≤◌, ◌<◌}
use native.Mathlib.Omega.{arith}
use lib.Dec.{leb}
use lib.ListN.{length}
use borrow.Author.Tests.{le-leb, lt-leb, leb-true, leb-false}
use Rattle.std.specs.Prelude.{◌⊎◌, Some, Result, Ok, Err}
use Rattle.std.proofs.Math.Nat.{min-le_right}
use Rattle.refusal.specs.declared.Refusal.{Refusal}
use Rattle.refusal.specs.declared.Refusal.TheVariants.{Short}
use Rattle.refusal.proofs.Numbers.{numbers_apart, ok_no_err}
use Rattle.refusal.specs.Numbers.{refusal_in}
use Rattle.fields.specs.Fields.{field}
use Rattle.fields.specs.Usable.{usable_bits, field_at}
use Rattle.fields.proofs.ReadBack.{field_lt}
use Rattle.fields.proofs.Rooms.{found, cut_off}
use Rattle.messages.specs.Records.{width_of}
use Rattle.messages.specs.Reading.{decoded, message_at, entry_at}
use Rattle.messages.specs.declared.Message.{Message}
use Rattle.messages.specs.declared.kind.Kind.{Kind}
use Rattle.messages.specs.inner.Kinds.{number, kind_at}
use Rattle.messages.specs.inner.Found.{after, record_at}
use Rattle.messages.proofs.Widths.{width_bounds}
use Rattle.messages.proofs.ByKind.{width_at}
use Rattle.messages.proofs.Coding.{decoded_there, short_or_long}
use Rattle.messages.proofs.Entries.{entry_short, entry_read}

-- the width of the kind that was read
pub width_found : (s : List ℕ) (place n : ℕ) (k : Kind) (w : ℕ) → field_at s place 2 ≡ Ok n → k ≡ kind_at n → w ≡ width_of (number k) → w ≡ width_of (field s place 2)
width_found s place n k w e f g =
    let h = found s place 2 n e in
    g ∙ rw f (width_at n) ∙ ap width_of h.2

-- the place behind the record of a kind that was read is small
pub behind_kind : (s : List ℕ) (place n w : ℕ) → field_at s place 2 ≡ Ok n → w ≡ width_of (field s place 2) → place + w ≤ 524344
behind_kind s place n w e f = omega (arith, (found s place 2 n e).1, f, width_bounds (field s place 2), min-le_right (length s) 65536)

module _ (s : List ℕ) (place end : ℕ) (inside : end ≤ usable_bits (length s)) where
  record_cut : end < after s place → record_at s place end ≡ Err Short
  unfolding record_at
  record_cut l = rw (lt-leb (after s place) end l)

  -- the kind's field is cut off
  pub kind_cut : (r : Refusal) → field_at s place 2 ≡ Err r → record_at s place end ≡ Err r
  kind_cut r e =
      let c = cut_off s place 2 (omega arith) r e in
      record_cut (omega (arith, c.1, width_bounds (field s place 2))) ∙ ap Err (sym c.0)

  module _ (w : ℕ) (width : w ≡ width_of (field s place 2)) where
    -- the record goes on behind the end
    pub record_beyond : end < place + w → record_at s place end ≡ Err Short
    record_beyond l = record_cut (rw (← width) l)

    pub rest_cut : (r : Refusal) → field_at s place w ≡ Err r → record_at s place end ≡ Err r
    rest_cut r e =
        let b = width_bounds (field s place 2) in
        let c = cut_off s place w (omega arith) r e in
        record_cut (omega (arith, c.1)) ∙ ap Err (sym c.0)

    module _ (n : ℕ) (e : field_at s place w ≡ Ok n) where
      pub record_fits : ((w ≡ 18) ⊎ (w ≡ 58)) × (n < 2 ^ w)
      record_fits =
          let h = found s place w n e in
          (rw width (short_or_long (field s place 2)), rw h.2 (field_lt s place w))

      pub record_found : place + w ≤ end → Ok (decoded (n * 2 ^ (58 - w)), place + w) ≡ record_at s place end
      unfolding record_at
      record_found h =
          let f = found s place w n e in
          let l : after s place ≤ end = rw (← width) h in
          rw (f.2, width, le-leb (after s place) end l, decoded_there s place)

-- ---- what the reader answers then

module _ (s : List ℕ) (place end : ℕ) (apart : place ≡ end → ⊥) (inside : end ≤ usable_bits (length s)) where
  pub entry_cut : (r : Refusal) → record_at s place end ≡ Err r → entry_at s place end ≡ Err r
  unfolding record_at
  entry_cut r e = go (leb (after s place) end) refl e
    where
      go : (b : Bool) → leb (after s place) end ≡ b → cond {A = Result (Message × ℕ) Refusal} b (Ok (message_at s place (field s place 2), after s place)) (Err Short) ≡ Err r → entry_at s place end ≡ Err r
      go true p f = absurd (ok_no_err f)
      go false p f = entry_short s place end apart (omega (arith, leb-false (after s place) end p)) ∙ ap Err (numbers_apart Short r (ap refusal_in f))

  pub entry_there : (there : Message × ℕ) → record_at s place end ≡ Ok there → entry_at s place end ≡ Ok (Some there)
  unfolding record_at
  entry_there there e = go (leb (after s place) end) refl e
    where
      go : (b : Bool) → leb (after s place) end ≡ b → cond {A = Result (Message × ℕ) Refusal} b (Ok (message_at s place (field s place 2), after s place)) (Err Short) ≡ Ok there → entry_at s place end ≡ Ok (Some there)
      go true p f =
          let q : (message_at s place (field s place 2), after s place) ≡ there = cc in
          entry_read s place end (field s place 2) refl inside (leb-true (after s place) end p) (message_at s place (field s place 2)) (after s place) refl refl ∙ ap (λ (o : Message × ℕ). Ok (Some o)) q
      go false p f = absurd (ok_no_err (sym f))
