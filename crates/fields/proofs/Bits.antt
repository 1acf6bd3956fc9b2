-- One bit of a byte list.
use mathlib.Core.Path.{◌≡◌, refl, sym, ap, ◌∙◌, subst}
use mathlib.Core.Logic.{◌≢◌}
use mathlib.Core.List.{List}
use Prim.Native.Nat.{ℕ, suc, ◌+◌, ◌-◌, ◌*◌, ◌/◌, ◌%◌, ◌^◌, ◌<◌}
use native.Mathlib.Decide.{ℕ_discrete, dec_lt}
use native.Mathlib.Omega.{arith}
use lib.ListN.{length, get_or, set, length-set}
use lib.Seq.{get_or-set_same, get_or-set_other, set_out, set-get_or}
use lib.Pow.{pow_pos}
use Rattle.fields.specs.Bits.{Bytes, weight, digit, patch, bit, put_bit}
use Rattle.fields.proofs.Digits.{digit_lt, digit_patch, patch_same, patch_lt, powers, other_digit}

pub weight_pos : (k : ℕ) → 0 < weight k
unfolding weight
weight_pos k = pow_pos (7 - k % 8)

-- a patched byte is a byte
pub patch_byte : (x k b : ℕ) → b < 2 → x < 256 → patch x (weight k) b < 256
unfolding weight
patch_byte x k b hb h =
    let e : 2 ^ (k % 8) * 2 * 2 ^ (7 - k % 8) ≡ 256 = sym (powers (k % 8) (7 - k % 8)) ∙ ap (λ (e : ℕ). 2 ^ e) {x = k % 8 + suc (7 - k % 8)} {y = 8} (omega arith) in
    subst (λ (n : ℕ). patch x (2 ^ (7 - k % 8)) b < n) e
    (patch_lt x (2 ^ (7 - k % 8)) b (pow_pos (7 - k % 8)) hb (2 ^ (k % 8)) (subst (λ (n : ℕ). x < n) (sym e) h))

pub bit_lt : (s : List ℕ) (k : ℕ) → bit s k < 2
unfolding bit
bit_lt s k = digit_lt (get_or s (k / 8) 0) (weight k)

-- ---- a bit that was put

pub length-put_bit : (s : List ℕ) (k b : ℕ) → length (put_bit s k b) ≡ length s
unfolding put_bit
length-put_bit s k b = length-set s (k / 8) (patch (get_or s (k / 8) 0) (weight k) b)

pub same_bit : (s : List ℕ) (k b : ℕ) → b < 2 → k < 8 * length s → bit (put_bit s k b) k ≡ b
unfolding bit put_bit
same_bit s k b hb h =
    rw (get_or-set_same s (k / 8) (patch (get_or s (k / 8) 0) (weight k) b) 0 (omega arith))
    (digit_patch (get_or s (k / 8) 0) (weight k) b (weight_pos k) hb)

-- what a bit that is put asks of a byte: of another one nothing, of its own where it is there
by_byte : (s : List ℕ) (i j v : ℕ) (P : ℕ → Type 0) → P (get_or s j 0) → (j ≡ i → P v) → P (get_or (set s i v) j 0)
by_byte s i j v P old new = go (ℕ_discrete j i) (dec_lt i (length s))
  where
    go : Dec (j ≡ i) → Dec (i < length s) → P (get_or (set s i v) j 0)
    go (no d) l = rw (get_or-set_other s i j v 0 d) old
    go (yes d) (no l) = rw (set_out s i v (omega arith)) old
    go (yes d) (yes l) = rw (d, get_or-set_same s i v 0 l) (new d)

pub other_bit : (s : List ℕ) (j k b : ℕ) → b < 2 → j ≢ k → bit (put_bit s j b) k ≡ bit s k
unfolding bit put_bit weight
other_bit s j k b hb ne =
    by_byte s (j / 8) (k / 8) (patch (get_or s (j / 8) 0) (weight j) b) (λ (x : ℕ). digit x (weight k) ≡ digit (get_or s (k / 8) 0) (weight k)) refl
    (λ d. rw d (other_digit (get_or s (j / 8) 0) (7 - j % 8) (7 - k % 8) b hb (omega arith)))

pub bytes-put_bit : (s : List ℕ) (k b : ℕ) → b < 2 → Bytes s → Bytes (put_bit s k b)
unfolding put_bit
bytes-put_bit s k b hb h i =
    by_byte s (k / 8) i (patch (get_or s (k / 8) 0) (weight k) b) (λ (x : ℕ). x < 256) (h i)
    (λ d. patch_byte (get_or s (k / 8) 0) k b hb (h (k / 8)))

-- the bit that is there already
pub put_back : (s : List ℕ) (k : ℕ) → put_bit s k (bit s k) ≡ s
unfolding put_bit bit
put_back s k = rw (patch_same (get_or s (k / 8) 0) (weight k)) (set-get_or s (k / 8) 0)
