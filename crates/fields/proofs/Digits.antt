-- One binary digit of one number.
use mathlib.Core.Path.{◌≡◌, sym, ap, ◌∙◌}
use mathlib.Core.Logic.{◌≢◌}
use Prim.Native.Nat.{ℕ, zero, suc, ◌+◌, ◌*◌, ◌/◌, ◌%◌, ◌^◌, ◌≤◌, ◌<◌}
use native.Mathlib.Nat.{mod-lt, div-add-mod', add-mul, mul_assoc, mul_comm, add-suc, div-one, div-div-eq-div-mul, mul-add-div_right, mul-add-mod_self_right, div-lt_iff_lt-mul, pow-suc, le_dest}
use native.Mathlib.Decide.{dec_lt}
use native.Mathlib.Omega.{arith}
use lib.Arith.{digits_div, digits_lt}
use lib.Pow.{pow_pos, pow-add}
use Rattle.fields.specs.Bits.{digit, patch}

pub digit_lt : (x w : ℕ) → digit x w < 2
unfolding digit
digit_lt x w = omega arith

-- a number by the digits above w, the digit of w, and the rest
parts : (x w : ℕ) → x / w / 2 * 2 * w + digit x w * w + x % w ≡ x
unfolding digit
parts x w = omega (arith, div-add-mod' x w, add-mul (x / w / 2 * 2) (x / w % 2) w, ap (λ (a : ℕ). a * w) (div-add-mod' (x / w) 2))

pub digit_le : (x w : ℕ) → digit x w * w ≤ x
digit_le x w = omega (arith, parts x w)

-- ---- a patched number

patch_is : (x w b : ℕ) → patch x w b ≡ (x / w / 2 * 2 + b) * w + x % w
unfolding patch
patch_is x w b = omega (arith, parts x w, add-mul (x / w / 2 * 2) b w)

-- the digit that is there already
pub patch_same : (x w : ℕ) → patch x w (digit x w) ≡ x
unfolding patch
patch_same x w = omega (arith, digit_le x w)

by_steps : (x w d : ℕ) → x / (w * 2 * d) ≡ x / w / 2 / d
by_steps x w d = sym (div-div-eq-div-mul x (w * 2) d) ∙ ap (λ (a : ℕ). a / d) (sym (div-div-eq-div-mul x w 2))

module _ (x w b : ℕ) (pw : 0 < w) (hb : b < 2) where
  top : patch x w b / w ≡ x / w / 2 * 2 + b
  top = rw (patch_is x w b) (digits_div (x / w / 2 * 2 + b) (mod-lt x pw))

  above : patch x w b / w / 2 ≡ x / w / 2
  above = rw top (omega arith)

  pub digit_patch : digit (patch x w b) w ≡ b
  unfolding digit
  digit_patch = rw top (omega arith)

  pub patch_lt : (n : ℕ) → x < n * 2 * w → patch x w b < n * 2 * w
  patch_lt n h =
      rw (patch_is x w b)
      (digits_lt {q = x / w / 2 * 2 + b} {m = n * 2} {c = w} (omega (arith, (div-lt_iff_lt-mul {k = w} {x = x} {y = n * 2} pw).1 h)) (mod-lt x pw))

  -- a digit of a greater weight
  greater : (d : ℕ) → digit (patch x w b) (w * 2 * d) ≡ digit x (w * 2 * d)
  unfolding digit
  greater d = rw (by_steps (patch x w b) w d, by_steps x w d, above)

-- a digit of a lesser weight
low : (a l u d : ℕ) → 0 < u → digit (a * (d * 2 * u) + l) u ≡ digit l u
unfolding digit
low a l u d pu =
    rw (← mul_assoc a (d * 2) u, mul-add-div_right pu (a * (d * 2)) l, ← mul_assoc a d 2) (mul-add-mod_self_right (a * d) 2 (l / u))

lesser : (x u d b : ℕ) → 0 < u → digit (patch x (d * 2 * u) b) u ≡ digit x u
lesser x u d b pu =
    rw (patch_is x (d * 2 * u) b) (low (x / (d * 2 * u) / 2 * 2 + b) (x % (d * 2 * u)) u d pu)
    ∙ sym (low (x / (d * 2 * u)) (x % (d * 2 * u)) u d pu)
    ∙ ap (λ (y : ℕ). digit y u) (div-add-mod' x (d * 2 * u))

-- ---- digits at powers of two

-- the power p + d + 1 by its parts
pub powers : (p d : ℕ) → 2 ^ (p + suc d) ≡ 2 ^ p * 2 * 2 ^ d
powers p d = ap (λ (e : ℕ). 2 ^ e) (add-suc p d ∙ omega arith) ∙ pow-add 2 (suc p) d ∙ ap (λ (x : ℕ). x * 2 ^ d) (pow-suc 2 p)

pub other_digit : (x p q b : ℕ) → b < 2 → p ≢ q → digit (patch x (2 ^ p) b) (2 ^ q) ≡ digit x (2 ^ q)
other_digit x p q b hb ne = go (dec_lt p q)
  where
    up : (d : ℕ) → suc p + d ≡ q → digit (patch x (2 ^ p) b) (2 ^ q) ≡ digit x (2 ^ q)
    up d e = rw (ap (λ (e : ℕ). 2 ^ e) {x = q} {y = p + suc d} (omega arith), powers p d) (greater x (2 ^ p) b (pow_pos p) hb (2 ^ d))

    down : (d : ℕ) → suc q + d ≡ p → digit (patch x (2 ^ p) b) (2 ^ q) ≡ digit x (2 ^ q)
    down d e = rw (ap (λ (e : ℕ). 2 ^ e) {x = p} {y = d + suc q} (omega arith), powers d q) (lesser x (2 ^ q) (2 ^ d) b (pow_pos q))

    go : Dec (p < q) → digit (patch x (2 ^ p) b) (2 ^ q) ≡ digit x (2 ^ q)
    go (yes h) = up (le_dest h).0 (le_dest h).1
    go (no h) =
        let l : q < p = omega arith in
        down (le_dest l).0 (le_dest l).1

-- two numbers of n digits with the same digits are equal
pub same_digits : (n x y : ℕ) → x < 2 ^ n → y < 2 ^ n → ((p : ℕ) → p < n → digit x (2 ^ p) ≡ digit y (2 ^ p)) → x ≡ y
unfolding digit
same_digits zero x y hx hy h = omega arith
same_digits (suc n) x y hx hy h =
    omega (
      arith,
      same_digits n (x / 2) (y / 2) (omega (arith, pow-suc 2 n)) (omega (arith, pow-suc 2 n)) (λ p l. next x p ∙ h (suc p) (omega arith) ∙ sym (next y p)),
      first x ∙ h 0 (omega arith) ∙ sym (first y),
    )
  where
    first : (x : ℕ) → x % 2 ≡ digit x (2 ^ 0)
    first x = ap (λ (a : ℕ). a % 2) (sym (div-one x))

    next : (x p : ℕ) → digit (x / 2) (2 ^ p) ≡ digit x (2 ^ suc p)
    next x p = ap (λ (a : ℕ). a % 2) (div-div-eq-div-mul x 2 (2 ^ p) ∙ ap (λ (a : ℕ). x / a) (mul_comm 2 (2 ^ p) ∙ sym (pow-suc 2 p)))
