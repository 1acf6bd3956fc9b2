-- A request is one field: what is read at a place stands there, and what stands there is read.
use mathlib.Core.Path.{◌≡◌, refl, sym, ap, ap₂, ◌∙◌}
use mathlib.Core.Bool.{Bool, true, false, cond}
use mathlib.Core.List.{List}
use Prim.Native.Nat.{ℕ, ◌+◌, ◌*◌, ◌^◌, ◌<◌}
use native.Mathlib.Omega.{arith}
use lib.Signed.{mag}
use borrow.Author.Tests.{lt-ltb, ltb-true, eqb-true, eqb-false, eq-eqb, ne_eqb}
use Rattle.fields.specs.Fields.{field}
use Rattle.fields.proofs.ReadBack.{field_lt}
use Rattle.fields.proofs.TwoFields.{read_two}
use Rattle.twos.specs.Twos.{twos, signed}
use Rattle.twos.proofs.Signs.{twos_lt, signed_twos, twos_signed, signed_mag}
use Rattle.requests.specs.Lists.{Sized, part_of}
use Rattle.requests.specs.Reading.{is_combine, request_at, next_place}
use Rattle.requests.specs.declared.Request.{Request}
use Rattle.requests.specs.declared.Request.TheVariants.{Combine, Write}
use Rattle.requests.proofs.Places.{after_combine_lem, after_write_lem}

-- the request at a place has a byte for a node and 32 bits for a value, stands there as its field, and ends behind it
pub record Stands (s : List ℕ) (place : ℕ) (r : Request) : Type 0 where
  pub sized : Sized r
  pub holds : field s place (part_of r).width ≡ (part_of r).number
  pub ends_at : next_place s place ≡ place + (part_of r).width

-- a request's number has room in its field
pub sized_fits : (r : Request) → Sized r → (part_of r).number < 2 ^ (part_of r).width
sized_fits (Combine node) h = omega (arith, h.0)
sized_fits (Write node value) h = omega (arith, twos_lt 32 (omega arith) value (ltb-true _ _ h.1))

module _ (s : List ℕ) (place : ℕ) where
  head : field s place 9 ≡ field s place 1 * 2 ^ 8 + field s (place + 1) 8
  head = read_two s place 1 8

  all : field s place 41 ≡ (field s place 1 * 2 ^ 8 + field s (place + 1) 8) * 2 ^ 32 + field s (place + 9) 32
  all = read_two s place 9 32 ∙ ap (λ (x : ℕ). x * 2 ^ 32 + field s (place + 9) 32) head

  pub stands : Stands s place (request_at s place)
  unfolding request_at
  stands = go (is_combine s place) refl
    where
      go : (b : Bool) → is_combine s place ≡ b → Stands s place (cond b (Combine (field s (place + 1) 8)) (Write (field s (place + 1) 8) (signed 32 (field s (place + 9) 32))))
      go true e =
          let k : field s place 1 ≡ 0 = eqb-true _ _ e in
          record { sized = (field_lt s (place + 1) 8, tt); holds = omega (arith, head); ends_at = after_combine_lem s place k }
      go false e =
          let n : field s place 1 ≡ 0 → ⊥ = eqb-false (field s place 1) 0 e in
          let k : field s place 1 ≡ 1 = omega (arith, field_lt s place 1) in
          let v = field_lt s (place + 9) 32 in
          record {
            sized = (field_lt s (place + 1) 8, lt-ltb (mag (signed 32 (field s (place + 9) 32))) (2 ^ 31) (signed_mag 32 (omega arith) (field s (place + 9) 32) v));
            holds = all ∙ ap₂ (λ (x y : ℕ). (x * 2 ^ 8 + field s (place + 1) 8) * 2 ^ 32 + y) k (sym (twos_signed 32 (omega arith) (field s (place + 9) 32) v));
            ends_at = after_write_lem s place n;
          }

  -- a field that holds a request is read as that request
  pub read_as : (r : Request) → Sized r → field s place (part_of r).width ≡ (part_of r).number → request_at s place ≡ r
  unfolding request_at
  read_as (Combine node) h e =
      let k : field s place 1 ≡ 0 = omega (arith, h.0, head, field_lt s (place + 1) 8) in
      let m : field s (place + 1) 8 ≡ node = omega (arith, h.0, head, field_lt s (place + 1) 8) in
      rw (eq-eqb (field s place 1) 0 k, m)
  read_as (Write node value) h e =
      let size : mag value < 2 ^ 31 = ltb-true _ _ h.1 in
      let t = twos_lt 32 (omega arith) value size in
      let f = field_lt s (place + 9) 32 in
      let g = field_lt s (place + 1) 8 in
      let k : field s place 1 ≡ 0 → ⊥ = λ q. omega (arith, all) in
      let l : field s place 1 < 2 = field_lt s place 1 in
      let m : field s (place + 1) 8 ≡ node = omega (arith, all) in
      let v : field s (place + 9) 32 ≡ twos 32 value = omega (arith, all) in
      rw (ne_eqb (field s place 1) 0 k, m, v, signed_twos 32 (omega arith) value size)
