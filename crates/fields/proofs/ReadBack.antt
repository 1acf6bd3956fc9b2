-- A field reads back as it was written, and writing back what was read changes nothing.
use mathlib.Core.Path.{◌≡◌, refl}
use mathlib.Core.Logic.{inr}
use mathlib.Core.List.{List}
use Prim.Native.Nat.{ℕ, zero, suc, ◌+◌, ◌*◌, ◌/◌, ◌%◌, ◌^◌, ◌<◌}
use native.Mathlib.Nat.{pow-suc}
use native.Mathlib.Omega.{arith}
use lib.Pow.{pow_pos}
use Rattle.fields.specs.Bits.{bit, put_bit}
use Rattle.fields.specs.Fields.{field, put_field}
use Rattle.fields.specs.Promises.{ReadBack, WriteBack}
use Rattle.fields.proofs.Bits.{bit_lt, length-put_bit, same_bit, put_back}
use Rattle.fields.proofs.Kept.{outside_kept}

-- the number in w bits is below 2 ^ w
pub field_lt : (s : List ℕ) (place w : ℕ) → field s place w < 2 ^ w
unfolding field
field_lt s place zero = pow_pos 0
field_lt s place (suc w) = omega (arith, field_lt s place w, bit_lt s (place + w), pow-suc 2 w)

pub read_back : ReadBack
unfolding field put_field
read_back s place zero v h l = omega arith
read_back s place (suc w) v h l =
    omega (
      arith,
      read_back (put_bit s (place + w) (v % 2)) place w (v / 2) (omega (arith, pow-suc 2 w)) (omega (arith, length-put_bit s (place + w) (v % 2))),
      outside_kept (put_bit s (place + w) (v % 2)) place w (v / 2) (place + w) (inr (omega arith)),
      same_bit s (place + w) (v % 2) (omega arith) (omega arith),
    )

pub write_back : WriteBack
unfolding field put_field
write_back s place zero = refl
write_back s place (suc w) =
    let n : ℕ = field s place w in
    let b : ℕ = bit s (place + w) in
    let l : b < 2 = bit_lt s (place + w) in
    let e : (n * 2 + b) % 2 ≡ b = omega arith in
    let d : (n * 2 + b) / 2 ≡ n = omega arith in
    rw (e, d, put_back s (place + w)) (write_back s place w)
