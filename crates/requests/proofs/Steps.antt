-- One request, read step by step: what each field that is found or missing says of the item at a place.
use mathlib.Core.Path.{◌≡◌, sym, ap, ◌∙◌}
use mathlib.Core.List.{List}
use Prim.Native.Nat.{ℕ, ◌+◌, ◌^◌, ◌<◌}
use native.Mathlib.Omega.{arith}
use lib.IntN.{ℤ}
use lib.Signed.{mag}
use borrow.Author.Tests.{lt-ltb, eq-eqb, ne_eqb}
use Rattle.fields.specs.Fields.{field}
use Rattle.fields.specs.Usable.{field_at}
use Rattle.std.specs.Prelude.{Ok, Err}
use Rattle.refusal.specs.Numbers.{told}
use Rattle.refusal.specs.declared.Refusal.{Refusal}
use Rattle.fields.proofs.ReadBack.{field_lt}
use Rattle.fields.proofs.Rooms.{found, cut_off}
use Rattle.twos.specs.Twos.{signed, decoded, decoded32}
use Rattle.twos.proofs.RoundTrip.{read_decodes}
use Rattle.twos.proofs.Signs.{signed_mag}
use Rattle.twos.proofs.Told.{decoded_value}
use Rattle.requests.specs.Reading.{request_at, item_at}
use Rattle.requests.specs.declared.Request.TheVariants.{Combine, Write}
use Rattle.requests.proofs.Places.{after_combine_lem, after_write_lem, after_more}
use Rattle.requests.proofs.Items.{item_there, item_cut}

-- the number in 32 bits that were found stands for a value of 32 bits
module _ (s : List ℕ) (place number : ℕ) (f : field_at s place 32 ≡ Ok number) where
  value_small : mag (signed 32 number) < 2 ^ 31
  value_small = signed_mag 32 (omega arith) number (rw (found s place 32 number f).2 (field_lt s place 32))

  pub value_read : decoded32 32 number ≡ Ok (signed 32 number)
  unfolding decoded32
  value_read =
      let d = decoded_value (decoded 32 number) (signed 32 number) (read_decodes s place 32 number (omega arith) (ap (told 0) f)) in
      rw (d, lt-ltb (mag (signed 32 number)) (2 ^ 31) value_small)

module _ (s : List ℕ) (place : ℕ) where
  pub no_kind : (r : Refusal) → field_at s place 1 ≡ Err r → item_at s place ≡ Err r
  no_kind r f =
      let c = cut_off s place 1 (omega arith) r f in
      rw c.0 (item_cut s place (omega (arith, c.1, after_more s place)))

  pub no_node : (r : Refusal) → field_at s (place + 1) 8 ≡ Err r → item_at s place ≡ Err r
  no_node r f =
      let c = cut_off s (place + 1) 8 (omega arith) r f in
      rw c.0 (item_cut s place (omega (arith, c.1, after_more s place)))

  module _ (kind node : ℕ) (fk : field_at s place 1 ≡ Ok kind) (fn : field_at s (place + 1) 8 ≡ Ok node) where
    pub node_byte : node < 256
    node_byte = omega (arith, (found s (place + 1) 8 node fn).2, field_lt s (place + 1) 8)

    pub combine_found : kind ≡ 0 → item_at s place ≡ Ok (Combine node, place + 9)
    unfolding request_at
    combine_found z =
        let e : field s place 1 ≡ 0 = sym (found s place 1 kind fk).2 ∙ z in
        let a = after_combine_lem s place e in
        item_there s place (omega (arith, (found s (place + 1) 8 node fn).1)) ∙ rw (a, eq-eqb (field s place 1) 0 e, (found s (place + 1) 8 node fn).2)

    module _ (z : kind ≡ 0 → ⊥) where
      is_write : field s place 1 ≡ 0 → ⊥
      is_write e = z ((found s place 1 kind fk).2 ∙ e)

      pub no_value : (r : Refusal) → field_at s (place + 9) 32 ≡ Err r → item_at s place ≡ Err r
      no_value r f =
          let c = cut_off s (place + 9) 32 (omega arith) r f in
          rw c.0 (item_cut s place (omega (arith, after_write_lem s place is_write, c.1)))

      pub write_found : (number next : ℕ) (value : ℤ) → field_at s (place + 9) 32 ≡ Ok number → decoded32 32 number ≡ Ok value → next ≡ place + 41 → item_at s place ≡ Ok (Write node value, next)
      unfolding request_at
      write_found number next value f d e =
          let a = after_write_lem s place is_write in
          item_there s place (omega (arith, (found s (place + 9) 32 number f).1))
          ∙ rw (a, e, ne_eqb (field s place 1) 0 is_write, ← value_is, (found s (place + 1) 8 node fn).2, (found s (place + 9) 32 number f).2)
        where
          value_is : signed 32 number ≡ value
          value_is = let e = sym (value_read s (place + 9) number f) ∙ d in cc
