-- When encoding and decoding are refused.
use mathlib.Core.Path.{◌≡◌}
use mathlib.Core.Bool.{true, and-eq-true_iff}
use Prim.Native.Nat.{ℕ, ◌-◌, ◌^◌, ◌≤◌, ◌<◌}
use native.Mathlib.Omega.{arith}
use lib.Dec.{leb, ltb}
use lib.IntN.{ℤ}
use lib.Signed.{mag}
use borrow.Author.Tests.{le-leb, lt-ltb, leb-true, ltb-true}
use Rattle.twos.specs.Twos.{wide, within, encodes, decodes}

module _ (w : ℕ) where
  pub wide_there : 0 < w → w ≤ 64 → wide w ≡ true
  unfolding wide
  wide_there p h = rw (le-leb 1 w (omega arith), le-leb w 64 h)

  pub wide_is : wide w ≡ true → (0 < w) × (w ≤ 64)
  unfolding wide
  wide_is e =
      let t = (and-eq-true_iff (leb 1 w) (leb w 64)).0 e in
      (omega (arith, leb-true 1 w t.0), leb-true w 64 t.1)

  pub encodes_there : (z : ℤ) → 0 < w → w ≤ 64 → mag z < 2 ^ (w - 1) → encodes w z ≡ true
  unfolding encodes
  encodes_there z p h l = rw (wide_there p h, lt-ltb (mag z) (2 ^ (w - 1)) l)

  pub encodes_is : (z : ℤ) → encodes w z ≡ true → (0 < w) × (w ≤ 64) × (mag z < 2 ^ (w - 1))
  unfolding encodes
  encodes_is z e =
      let t = (and-eq-true_iff (wide w) (within w z)).0 e in
      let h = wide_is t.0 in
      (h.0, h.1, ltb-true (mag z) (2 ^ (w - 1)) t.1)

  pub decodes_there : (n : ℕ) → 0 < w → w ≤ 64 → n < 2 ^ w → decodes w n ≡ true
  unfolding decodes
  decodes_there n p h l = rw (wide_there p h, lt-ltb n (2 ^ w) l)

  pub decodes_is : (n : ℕ) → decodes w n ≡ true → (0 < w) × (w ≤ 64) × (n < 2 ^ w)
  unfolding decodes
  decodes_is n e =
      let t = (and-eq-true_iff (wide w) (ltb n (2 ^ w))).0 e in
      let h = wide_is t.0 in
      (h.0, h.1, ltb-true n (2 ^ w) t.1)
