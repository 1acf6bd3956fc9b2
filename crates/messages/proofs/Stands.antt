-- A message's record stands at a place exactly where the message is read there.
use mathlib.Core.Path.{◌≡◌, refl, sym, ap, ◌∙◌}
use mathlib.Core.Bool.{true}
use mathlib.Core.List.{List}
use Prim.Native.Nat.{ℕ, zero, suc, ◌+◌, ◌*◌, ◌^◌, ◌<◌}
use native.Mathlib.Omega.{arith}
use lib.IntN.{ℤ}
use lib.Signed.{mag}
use borrow.Author.Tests.{lt-ltb, ltb-true}
use Rattle.fields.specs.Fields.{field}
use Rattle.fields.proofs.ReadBack.{field_lt}
use Rattle.fields.proofs.TwoFields.{read_two}
use Rattle.twos.specs.Twos.{twos, signed, within}
use Rattle.twos.proofs.Signs.{signed_twos, twos_signed, signed_mag}
use Rattle.messages.specs.Records.{kind_of, width_of, bits_of, head_of, record_of, Sized}
use Rattle.messages.specs.Reading.{message_of, message_at}
use Rattle.messages.specs.declared.Message.{Message}
use Rattle.messages.specs.declared.Message.TheVariants.{Probe, Response, Update, Release}
use Rattle.messages.proofs.Widths.{value_lt}

module _ (s : List ℕ) (place : ℕ) where
  -- the fields that every record begins with, and the value behind them
  head : field s place 18 ≡ head_of (field s place 2) (field s (place + 2) 8) (field s (place + 10) 8)
  head =
      let f : field s place 18 ≡ field s place 10 * 2 ^ 8 + field s (place + 10) 8 = read_two s place 10 8 in
      let g : field s place 10 ≡ field s place 2 * 2 ^ 8 + field s (place + 2) 8 = read_two s place 2 8 in
      omega arith

  with_value : field s place 58 ≡ field s place 18 * 2 ^ 40 + field s (place + 18) 40
  with_value = read_two s place 18 40

  from_lt : field s (place + 2) 8 < 256
  from_lt = field_lt s (place + 2) 8

  to_lt : field s (place + 10) 8 < 256
  to_lt = field_lt s (place + 10) 8

  value_lies : field s (place + 18) 40 < 2 ^ 40
  value_lies = field_lt s (place + 18) 40

  -- ---- from the place to the message: what is read stands there

  value_fits : within 40 (signed 40 (field s (place + 18) 40)) ≡ true
  value_fits = lt-ltb (mag (signed 40 (field s (place + 18) 40))) (2 ^ 39) (signed_mag 40 (omega arith) (field s (place + 18) 40) value_lies)

  value_back : twos 40 (signed 40 (field s (place + 18) 40)) ≡ field s (place + 18) 40
  value_back = twos_signed 40 (omega arith) (field s (place + 18) 40) value_lies

  pub record Standing (m : Message) : Type 0 where
    pub kind : kind_of m ≡ field s place 2
    pub sized : Sized m
    pub stands : field s place (bits_of m) ≡ record_of m

  pub standing : (kind : ℕ) → kind ≡ field s place 2 → Standing (message_at s place kind)
  unfolding message_at message_of kind_of width_of record_of
  standing zero e = record { kind = e; sized = (from_lt, to_lt, refl); stands = omega (arith, head) }
  standing (suc zero) e = record { kind = e; sized = (from_lt, to_lt, value_fits); stands = omega (arith, head, with_value, value_back) }
  standing (suc (suc zero)) e = record { kind = e; sized = (from_lt, to_lt, value_fits); stands = omega (arith, head, with_value, value_back) }
  standing (suc (suc (suc zero))) e = record { kind = e; sized = (from_lt, to_lt, refl); stands = omega (arith, head) }
  standing (suc (suc (suc (suc kind)))) e = absurd (omega (arith, field_lt s place 2))

  -- ---- from the message to the place: what stands there is read

  record Head (kind a b : ℕ) : Type 0 where
    kind_is : kind ≡ field s place 2
    from_is : a ≡ field s (place + 2) 8
    to_is : b ≡ field s (place + 10) 8

  module _ (kind a b : ℕ) (ha : a < 256) (hb : b < 256) where
    short : field s place 18 ≡ head_of kind a b → Head kind a b
    short e =
        record {
          kind_is = omega (arith, head, from_lt, to_lt);
          from_is = omega (arith, head, from_lt, to_lt);
          to_is = omega (arith, head, from_lt, to_lt);
        }

    module _ (z : ℤ) (hz : within 40 z ≡ true) (e : field s place 58 ≡ head_of kind a b * 2 ^ 40 + twos 40 z) where
      long : Head kind a b
      long = short (omega (arith, with_value, value_lies, value_lt z hz))

      value : z ≡ signed 40 (field s (place + 18) 40)
      value =
          let f : field s (place + 18) 40 ≡ twos 40 z = omega (arith, with_value, value_lies, value_lt z hz) in
          sym (signed_twos 40 (omega arith) z (ltb-true (mag z) (2 ^ 39) hz)) ∙ ap (signed 40) (sym f)

  pub is_read : (m : Message) → Sized m → field s place (bits_of m) ≡ record_of m → (kind_of m ≡ field s place 2) × (m ≡ message_at s place (kind_of m))
  unfolding kind_of record_of width_of message_at message_of
  is_read (Probe a b) (ha, hb, ok) e =
      let h = short 0 a b ha hb e in
      (h.kind_is, cc)
  is_read (Response a b z) (ha, hb, ok) e =
      let h = long 1 a b ha hb z ok e in
      let v = value 1 a b ha hb z ok e in
      (h.kind_is, cc)
  is_read (Update a b z) (ha, hb, ok) e =
      let h = long 2 a b ha hb z ok e in
      let v = value 2 a b ha hb z ok e in
      (h.kind_is, cc)
  is_read (Release a b) (ha, hb, ok) e =
      let h = short 3 a b ha hb e in
      (h.kind_is, cc)
