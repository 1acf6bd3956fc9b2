-- The limits of an entry, and what they say together.
use mathlib.Core.Path.{◌≡◌, refl, sym, ap, ap₂, ◌∙◌}
use mathlib.Core.Bool.{Bool, true, ◌&&◌, true≢false, and-eq-true_iff}
use Prim.Native.Nat.{ℕ, zero, suc, ◌+◌, ◌*◌, ◌^◌, ◌≤◌, ◌<◌}
use native.Mathlib.Omega.{arith}
use lib.Dec.{eqb, leb}
use lib.Bits.{bit_or, or_add_and, and_le_l, and_le_r}
use lib.IntN.{ℤ, pos, negsuc, neg_ℤ}
use lib.Signed.{le_z, mag}
use borrow.Author.Tests.{leb-true, le-leb, eqb-true, eq-eqb}
use mir.Syntax.{Width, w64}
use mir.Val.{SFits, to_z, of_z}
use mir.Facts.{to_z-of_z, of_z-to_z, Fits-or, Fits-of_z}
use Rattle.tree.specs.Ranges.{in_range}
use Rattle.tree.specs.inner.Places.{from}
use Rattle.tree.specs.Every.{every}
use Rattle.tree.proofs.Every.{same_test, from_more}
use Rattle.session.specs.Soundness.{in_limits}

-- ---- the range: its lower end has 64 bits

least_size : (x : ℕ) → x < 2 ^ 63 → mag (neg_ℤ (pos x)) < 2 ^ 63
least_size zero h = h
least_size (suc x) h = omega arith

pub least_fits : (k : ℕ) → k < 2 ^ 32 → SFits w64 (neg_ℤ (pos (k * 2147483648)))
least_fits k h = record { sfits = least_size (k * 2147483648) (omega arith) }

-- the range of no node is zero
pub only_zero : (z : ℤ) → in_range 0 z ≡ true → z ≡ pos 0
unfolding in_range
only_zero (pos n) e = ap pos (zero_most n (leb-true n 0 ((and-eq-true_iff (leb 0 n) (leb n 0)).0 e).1))
  where
    zero_most : (n : ℕ) → n ≤ 0 → n ≡ 0
    zero_most n h = omega arith
only_zero (negsuc n) e = absurd (true≢false (sym e))

-- and zero is in every range
pub zero_in_range : (k : ℕ) → in_range k (pos 0) ≡ true
unfolding in_range
zero_in_range k = ap₂ ◌&&◌ (not_above (k * 2147483648)) (le-leb 0 (k * 2147483647) (omega arith))
  where
    not_above : (x : ℕ) → le_z (neg_ℤ (pos x)) (pos 0) ≡ true
    not_above zero = refl
    not_above (suc x) = refl

pub zero_in : (z : ℤ) → z ≡ pos 0 → in_range 0 z ≡ true
zero_in z e = ap (in_range 0) e ∙ zero_in_range 0

-- as its bits tell
pub zero_test : (w : Width) (z : ℤ) → to_z w 0 ≡ pos 0 → of_z w (pos 0) ≡ 0 → SFits w z → eqb (of_z w z) 0 ≡ in_range 0 z
zero_test w z back forth f = same_test _ _
    (λ e. zero_in z (sym (to_z-of_z f) ∙ ap (to_z w) (eqb-true (of_z w z) 0 e) ∙ back))
    (λ e. eq-eqb (of_z w z) 0 (ap (of_z w) (only_zero z e) ∙ forth))

-- what is joined by `|` is zero where both are, and so of signed numbers
pub or_none : (a b : ℕ) → eqb (bit_or a b) 0 ≡ (eqb a 0 && eqb b 0)
or_none a b = same_test _ _
    (λ e.
    let n = eqb-true (bit_or a b) 0 e in
    ap₂ ◌&&◌ (eq-eqb a 0 (omega (arith, n, or_add_and a b, and_le_r a b))) (eq-eqb b 0 (omega (arith, n, or_add_and a b, and_le_l a b))))
    (λ e.
    let p = (and-eq-true_iff (eqb a 0) (eqb b 0)).0 e in
    eq-eqb (bit_or a b) 0 (omega (arith, or_add_and a b, eqb-true a 0 p.0, eqb-true b 0 p.1)))

pub join_zero : (w : Width) (a b : ℤ) → to_z w 0 ≡ pos 0 → of_z w (pos 0) ≡ 0 → SFits w a → SFits w b → SFits w (to_z w (bit_or (of_z w a) (of_z w b)))
    → in_range 0 (to_z w (bit_or (of_z w a) (of_z w b))) ≡ (in_range 0 a && in_range 0 b)
join_zero w a b back forth f g h =
    sym (zero_test w _ back forth h)
    ∙ ap (λ n. eqb n 0) (of_z-to_z {w = w} (Fits-or {w = w} (Fits-of_z {w = w} f) (Fits-of_z {w = w} g)))
    ∙ or_none (of_z w a) (of_z w b)
    ∙ ap₂ ◌&&◌ (zero_test w a back forth f) (zero_test w b back forth g)

pub none_more : (test : ℕ → Bool) (k i a b : ℕ) → k ≤ i → eqb a 0 ≡ every (from k test) i → eqb b 0 ≡ test i → eqb (bit_or a b) 0 ≡ every (from k test) (i + 1)
none_more test k i a b h e f = or_none a b ∙ from_more test k i (eqb a 0) (eqb b 0) h e f

-- ---- lease number, messages and cache

module _ (b k twice lease : ℕ) (cache : ℤ) (messages : ℕ) where
  pub limits_parts : in_limits b k twice lease cache messages ≡ true → (lease ≤ b) × ((messages ≤ twice) × (in_range k cache ≡ true))
  unfolding in_limits
  limits_parts e =
      let p = (and-eq-true_iff (leb lease b) (leb messages twice && in_range k cache)).0 e in
      let q = (and-eq-true_iff (leb messages twice) (in_range k cache)).0 p.1 in
      (leb-true lease b p.0, (leb-true messages twice q.0, q.1))

  pub limits_of : lease ≤ b → messages ≤ twice → in_range k cache ≡ true → in_limits b k twice lease cache messages ≡ true
  unfolding in_limits
  limits_of g h e = rw (le-leb lease b g, le-leb messages twice h, e)
