-- A message as a number of 58 bits: its parts, as the code finds them, and back.
use mathlib.Core.Path.{◌≡◌, refl, sym, ap, ◌∙◌}
use mathlib.Core.Bool.{Bool, true, false, cond, ◌||◌}
use mathlib.Core.Logic.{◌⊎◌, inl, inr}
use Prim.Native.Nat.{ℕ, ◌+◌, ◌-◌, ◌*◌, ◌/◌, ◌%◌, ◌^◌, ◌<◌}
use mathlib.Core.List.{List}
use native.Mathlib.Omega.{arith}
use lib.Dec.{eqb}
use lib.IntN.{ℤ}
use lib.Signed.{mag}
use borrow.Author.Tests.{ltb-true}
use Rattle.twos.specs.Twos.{twos, signed, within}
use Rattle.twos.proofs.Signs.{signed_twos}
use Rattle.messages.specs.Records.{kind_of, width_of, bits_of, head_of, record_of, coded}
use Rattle.fields.specs.Fields.{field}
use Rattle.messages.proofs.Stands.{standing}
use Rattle.messages.specs.Reading.{message_of, message_at, decoded}
use Rattle.messages.specs.declared.Message.{Message}
use Rattle.messages.specs.declared.Message.TheVariants.{Probe, Response, Update, Release}
use Rattle.messages.specs.Promises.{CodedBack}
use Rattle.messages.proofs.Widths.{value_lt}

-- a record is short or long
pub short_or_long : (kind : ℕ) → (width_of kind ≡ 18) ⊎ (width_of kind ≡ 58)
unfolding width_of
short_or_long kind = go (eqb kind 1 || eqb kind 2)
  where
    go : (b : Bool) → (◌≡◌ {A = ℕ} (cond b 58 18) 18) ⊎ (◌≡◌ {A = ℕ} (cond b 58 18) 58)
    go true = inr refl
    go false = inl refl

-- the parts of a number n that has v behind the head of a record
record Parts (n kind a b v : ℕ) : Type 0 where
  kinds : n / 72057594037927936 ≡ kind
  senders : n / 281474976710656 % 256 ≡ a
  receivers : n / 1099511627776 % 256 ≡ b
  values : n % 1099511627776 ≡ v

parts : (n kind a b v : ℕ) → n ≡ head_of kind a b * 2 ^ 40 + v → a < 256 → b < 256 → v < 2 ^ 40 → Parts n kind a b v
parts n kind a b v e ha hb hv = record { kinds = omega arith; senders = omega arith; receivers = omega arith; values = omega arith }

value_back : (z : ℤ) → within 40 z ≡ true → signed 40 (twos 40 z) ≡ z
value_back z h = signed_twos 40 (omega arith) z (ltb-true (mag z) (2 ^ 39) h)

pub coded_back : CodedBack
unfolding decoded coded record_of kind_of width_of message_of
coded_back (Probe a b) (ha, hb, h) = let p = parts (head_of 0 a b * 2 ^ 40) 0 a b 0 (omega arith) ha hb (omega arith) in rw (p.kinds, p.senders, p.receivers)
coded_back (Response a b z) (ha, hb, h) = let p = parts ((head_of 1 a b * 2 ^ 40 + twos 40 z) * 1) 1 a b (twos 40 z) (omega arith) ha hb (value_lt z h) in rw (p.kinds, p.senders, p.receivers, p.values, value_back z h)
coded_back (Update a b z) (ha, hb, h) = let p = parts ((head_of 2 a b * 2 ^ 40 + twos 40 z) * 1) 2 a b (twos 40 z) (omega arith) ha hb (value_lt z h) in rw (p.kinds, p.senders, p.receivers, p.values, value_back z h)
coded_back (Release a b) (ha, hb, h) = let p = parts (head_of 3 a b * 2 ^ 40) 3 a b 0 (omega arith) ha hb (omega arith) in rw (p.kinds, p.senders, p.receivers)

-- the message of the record that stands at a place, with zero bits behind it
module _ (s : List ℕ) (place : ℕ) where
  abbrev message : Message
  message = message_at s place (field s place 2)

  abbrev padded : ℕ → ℕ
  padded w = field s place w * 2 ^ (58 - w)

  pub decoded_there : decoded (padded (width_of (field s place 2))) ≡ message
  unfolding coded
  decoded_there =
      let t = standing s place (field s place 2) refl in
      ap (λ (kind : ℕ). decoded (padded (width_of kind))) (sym t.kind)
      ∙ ap (λ (n : ℕ). decoded (n * 2 ^ (58 - bits_of message))) t.stands
      ∙ coded_back message t.sized
