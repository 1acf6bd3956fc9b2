-- The range of a sum of k values: it adds, and it fits.
use mathlib.Core.Path.{◌≡◌, refl, sym, ap, ◌∙◌}
use mathlib.Core.Bool.{Bool, true, false, ◌&&◌, and-true}
use Prim.Native.Nat.{ℕ, zero, suc, ◌+◌, ◌-◌, ◌*◌, ◌^◌, ◌<◌, ◌≤◌}
use native.Mathlib.Omega.{arith}
use lib.Dec.{leb, ltb, leb-zero, leb-suc-zero, leb-suc-suc}
use lib.IntN.{ℤ, pos, negsuc, neg_ℤ, sub_ℕ, ◌+ℤ◌}
use lib.Signed.{le_z, mag}
use borrow.Author.Tests.{leb-true, ltb-true, le-leb, lt-ltb, le-ltb}
use Rattle.twos.specs.Twos.{within}
use Rattle.tree.specs.Operation.{pick, plus, sum}
use Rattle.tree.specs.Ranges.{in_range, Range}
use Rattle.tree.specs.Promises.{RangeOfOne, RangeAdds, RangeOfNodes, RangeFits}
use Rattle.tree.proofs.Cases.{lt_or_le}
use Rattle.tree.proofs.Folds.{related}

-- the range by the sign, in numbers
abbrev Within : ℕ → ℤ → Type 0
Within k (pos n) = n ≤ k * 2147483647
Within k (negsuc n) = n < k * 2147483648

least_pos : (x n : ℕ) → le_z (neg_ℤ (pos x)) (pos n) ≡ true
least_pos zero n = leb-zero n
least_pos (suc x) n = refl

least_negsuc : (x n : ℕ) → le_z (neg_ℤ (pos x)) (negsuc n) ≡ ltb n x
least_negsuc zero n = sym (leb-suc-zero n)
least_negsuc (suc x) n = sym (leb-suc-suc n x)

range_pos : (k n : ℕ) → in_range k (pos n) ≡ leb n (k * 2147483647)
unfolding in_range
range_pos k n = ap (λ (b : Bool). b && leb n (k * 2147483647)) (least_pos (k * 2147483648) n)

range_negsuc : (k n : ℕ) → in_range k (negsuc n) ≡ ltb n (k * 2147483648)
unfolding in_range
range_negsuc k n = and-true (le_z (neg_ℤ (pos (k * 2147483648))) (negsuc n)) ∙ least_negsuc (k * 2147483648) n

numbers : (k : ℕ) (z : ℤ) → Range k z → Within k z
numbers k (pos n) r = leb-true n (k * 2147483647) (sym (range_pos k n) ∙ r.within)
numbers k (negsuc n) r = ltb-true n (k * 2147483648) (sym (range_negsuc k n) ∙ r.within)

range : (k : ℕ) (z : ℤ) → Within k z → Range k z
range k (pos n) h = record { within = range_pos k n ∙ le-leb n (k * 2147483647) h }
range k (negsuc n) h = record { within = range_negsuc k n ∙ lt-ltb n (k * 2147483648) h }

-- a - b is in range where both of its outcomes are
difference : (k a b : ℕ) → (a < b → b - suc a < k * 2147483648) → (b ≤ a → a - b ≤ k * 2147483647) → Within k (sub_ℕ a b)
difference k a b f g = lt_or_le a b (λ l. rw (lt-ltb a b l) (f l)) (λ l. rw (le-ltb a b l) (g l))

adds : (j k : ℕ) (y z : ℤ) → Within j y → Within k z → Within (j + k) (y +ℤ z)
adds j k (pos a) (pos b) h l = omega arith
adds j k (pos a) (negsuc b) h l = difference (j + k) a (suc b) (λ q. omega arith) (λ q. omega arith)
adds j k (negsuc a) (pos b) h l = difference (j + k) b (suc a) (λ q. omega arith) (λ q. omega arith)
adds j k (negsuc a) (negsuc b) h l = omega arith

pub range_adds : RangeAdds
range_adds j k y z r s = range (j + k) (y +ℤ z) (adds j k y z (numbers j y r) (numbers k z s))

pub range_of_one : RangeOfOne
range_of_one z = (λ r. one z (numbers 1 z r), λ e. range 1 z (back z (ltb-true (mag z) (2 ^ 31) e)))
  where
    one : (z : ℤ) → Within 1 z → within 32 z ≡ true
    one (pos n) h = lt-ltb n (2 ^ 31) (omega arith)
    one (negsuc n) h = lt-ltb n (2 ^ 31) (omega arith)

    back : (z : ℤ) → mag z < 2 ^ 31 → Within 1 z
    back (pos n) h = omega arith
    back (negsuc n) h = omega arith

pub nothing_in : (k : ℕ) → Range k (pos 0)
nothing_in k = range k (pos 0) (omega arith)

pub range_of_nodes : RangeOfNodes
range_of_nodes f test n h =
    related plus sum (λ k z. Range k z) (nothing_in 0) (λ j k y z r s. range_adds j k y z r s)
    (λ j. pick plus (test j) 1) (λ j. pick sum (test j) (f j)) n (λ j l. one (test j) (f j) (h j l))
  where
    one : (b : Bool) (z : ℤ) → Range 1 z → Range (pick plus b 1) (pick sum b z)
    one true z r = r
    one false z r = nothing_in 0

pub range_fits : RangeFits
range_fits k z l r = go z (numbers k z r)
  where
    go : (z : ℤ) → Within k z → within 40 z ≡ true
    go (pos n) h = lt-ltb n (2 ^ 39) (omega arith)
    go (negsuc n) h = lt-ltb n (2 ^ 39) (omega arith)
