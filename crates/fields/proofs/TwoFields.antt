-- One field of a + b bits is a field of a bits and, behind it, one of b bits.
use mathlib.Core.Path.{◌≡◌, refl, sym, ap, ◌∙◌}
use mathlib.Core.List.{List}
use Prim.Native.Nat.{ℕ, zero, suc, ◌+◌, ◌*◌, ◌/◌, ◌%◌, ◌^◌}
use native.Mathlib.Nat.{add-zero, add_assoc, add-suc, mul-one, mul_assoc, mul_comm, pow-suc, div-one, div-div-eq-div-mul}
use native.Mathlib.Omega.{arith}
use lib.Pow.{high}
use Rattle.fields.specs.Bits.{put_bit}
use Rattle.fields.specs.Fields.{field, put_field}
use Rattle.fields.specs.Promises.{ReadTwo, WriteTwo}

pub read_two : ReadTwo
unfolding field
read_two s place a zero = simp (add-zero, mul-one) refl
read_two s place a (suc b) =
    rw (add-suc a b, pow-suc 2 b, read_two s place a b, ← add_assoc place a b, ← mul_assoc) (omega arith)

-- only the low w bits of a number are written
pub low_bits : (s : List ℕ) (place w x v : ℕ) → put_field s place w (x * 2 ^ w + v) ≡ put_field s place w v
unfolding put_field
low_bits s place zero x v = refl
low_bits s place (suc w) x v =
    let p : x * 2 ^ suc w ≡ x * 2 ^ w * 2 = ap (λ (y : ℕ). x * y) (pow-suc 2 w) ∙ sym (mul_assoc x (2 ^ w) 2) in
    let d : (x * 2 ^ suc w + v) / 2 ≡ x * 2 ^ w + v / 2 = omega arith in
    let m : (x * 2 ^ suc w + v) % 2 ≡ v % 2 = omega arith in
    rw (d, m) (low_bits (put_bit s (place + w) (v % 2)) place w x (v / 2))

split : (s : List ℕ) (place a b v : ℕ) → put_field s place (a + b) v ≡ put_field (put_field s (place + a) b v) place a (v / 2 ^ b)
unfolding put_field
split s place a zero v = simp (add-zero, div-one) refl
split s place a (suc b) v =
    rw (add-suc a b, pow-suc 2 b, mul_comm (2 ^ b) 2, ← div-div-eq-div-mul v 2 (2 ^ b), split (put_bit s (place + (a + b)) (v % 2)) place a b (v / 2), add_assoc place a b)

pub write_two : WriteTwo
write_two s place a b x y h = split s place a b (x * 2 ^ b + y) ∙ rw (high x b h, low_bits s (place + a) b x y)
