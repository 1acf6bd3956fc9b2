-- Two's complement over any width: the number of each sign, and back.
use mathlib.Core.Path.{◌≡◌, refl, sym, ap, ◌∙◌}
use mathlib.Core.Bool.{true, false, false≢true, true≢false}
use Prim.Native.Nat.{ℕ, zero, suc, ◌+◌, ◌-◌, ◌/◌, ◌^◌, ◌≤◌, ◌<◌}
use native.Mathlib.Nat.{pow-suc}
use native.Mathlib.Decide.{dec_lt}
use native.Mathlib.Omega.{arith}
use lib.Dec.{leb-zero, ltb}
use lib.IntN.{ℤ, pos, negsuc, ◌-ℤ◌}
use lib.Signed.{mag, le_z}
use borrow.Author.Tests.{lt-ltb, le-ltb}
use Rattle.twos.specs.Twos.{twos, signed}

pub halves : (w : ℕ) → 0 < w → 2 ^ w ≡ 2 ^ (w - 1) + 2 ^ (w - 1)
halves w h = ap (λ (e : ℕ). 2 ^ e) {x = w} {y = suc (w - 1)} (omega arith) ∙ omega (arith, pow-suc 2 (w - 1))

-- a number has room in a field where its half has room in the half
pub halved : (w n : ℕ) → 0 < w → ltb (n / 2) (2 ^ (w - 1)) ≡ ltb n (2 ^ w)
halved w n p = go (dec_lt n (2 ^ w))
  where
    go : Dec (n < 2 ^ w) → ltb (n / 2) (2 ^ (w - 1)) ≡ ltb n (2 ^ w)
    go (yes h) = rw (lt-ltb n (2 ^ w) h, lt-ltb (n / 2) (2 ^ (w - 1)) (omega (arith, halves w p)))
    go (no h) = rw (le-ltb n (2 ^ w) (omega arith), le-ltb (n / 2) (2 ^ (w - 1)) (omega (arith, halves w p)))

-- ---- by the sign, as the code has it: by the half of the field's numbers

pub twos_up : (w : ℕ) (z : ℤ) → le_z (pos 0) z ≡ true → twos w z ≡ mag z
twos_up w (pos n) t = refl
twos_up w (negsuc n) t = absurd (false≢true t)

pub twos_down : (w : ℕ) (z : ℤ) → 0 < w → mag z < 2 ^ (w - 1) → le_z (pos 0) z ≡ false → twos w z ≡ 2 ^ (w - 1) - 1 - mag z + 2 ^ (w - 1)
twos_down w (pos n) p h t = absurd (true≢false (sym (leb-zero n) ∙ t))
twos_down w (negsuc n) p h t = omega (arith, halves w p)

pub signed_low : (w n : ℕ) → n < 2 ^ (w - 1) → signed w n ≡ pos n
unfolding signed
signed_low w n h = rw (lt-ltb n (2 ^ (w - 1)) h)

pub signed_high : (w n : ℕ) → 0 < w → 2 ^ (w - 1) ≤ n → signed w n ≡ negsuc (2 ^ (w - 1) - 1 - (n - 2 ^ (w - 1)))
unfolding signed
signed_high w n p h =
    let e : 2 ^ w - suc n ≡ 2 ^ (w - 1) - 1 - (n - 2 ^ (w - 1)) = omega (arith, halves w p) in
    rw (le-ltb n (2 ^ (w - 1)) h, e)

-- ---- there and back

module _ (w : ℕ) (p : 0 < w) where
  pub twos_lt : (z : ℤ) → mag z < 2 ^ (w - 1) → twos w z < 2 ^ w
  twos_lt (pos n) h = omega (arith, halves w p)
  twos_lt (negsuc n) h = omega (arith, halves w p)

  pub signed_twos : (z : ℤ) → mag z < 2 ^ (w - 1) → signed w (twos w z) ≡ z
  signed_twos (pos n) h = signed_low w n h
  signed_twos (negsuc n) h = signed_high w (2 ^ w - suc n) p (omega (arith, halves w p)) ∙ ap negsuc (omega (arith, halves w p))

  pub twos_signed : (n : ℕ) → n < 2 ^ w → twos w (signed w n) ≡ n
  twos_signed n h = go (dec_lt n (2 ^ (w - 1)))
    where
      go : Dec (n < 2 ^ (w - 1)) → twos w (signed w n) ≡ n
      go (yes l) = rw (signed_low w n l)
      go (no l) = rw (signed_high w n p (omega arith)) (omega (arith, halves w p))

  pub signed_mag : (n : ℕ) → n < 2 ^ w → mag (signed w n) < 2 ^ (w - 1)
  signed_mag n h = go (dec_lt n (2 ^ (w - 1)))
    where
      go : Dec (n < 2 ^ (w - 1)) → mag (signed w n) < 2 ^ (w - 1)
      go (yes l) = rw (signed_low w n l) l
      go (no l) = rw (signed_high w n p (omega arith)) (omega (arith, halves w p))

-- ---- -1 - z

pub flip_up : (n : ℕ) → negsuc 0 -ℤ pos n ≡ negsuc n
flip_up zero = refl
flip_up (suc n) = ap negsuc (omega arith)

pub flip_down : (z : ℤ) → le_z (pos 0) z ≡ false → negsuc 0 -ℤ z ≡ pos (mag z)
flip_down (pos n) t = absurd (true≢false (sym (leb-zero n) ∙ t))
flip_down (negsuc n) t = rw (le-ltb (suc n) 1 (omega arith)) (ap pos (omega arith))

pub up_mag : (z : ℤ) → le_z (pos 0) z ≡ true → z ≡ pos (mag z)
up_mag (pos n) t = refl
up_mag (negsuc n) t = absurd (false≢true t)
