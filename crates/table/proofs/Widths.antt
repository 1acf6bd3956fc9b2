-- How long a number is in binary, and where a table's fields lie.
use mathlib.Core.Path.{◌≡◌, refl}
use Prim.Native.Nat.{ℕ, zero, suc, ◌+◌, ◌-◌, ◌*◌, ◌≤◌, ◌<◌}
use native.Mathlib.Omega.{arith}
use lib.Count.{count_leading_zeros, leading_length}
use lib.Pow.{pow_mono}
use Rattle.tree.proofs.Cases.{lt_or_le}
use Rattle.table.specs.Layout.{long, parent_place}
use Rattle.table.specs.Promises.{WidthExactly}

pub width_exactly : WidthExactly
unfolding long
width_exactly k h =
    let t = leading_length 64 k h in
    let e : 64 - count_leading_zeros 64 k ≡ t.0 = omega (arith, t.1) in
    (rw e t.2, rw e t.3)

-- a parent of up to 256 nodes has at most 8 bits
pub long_le : (k : ℕ) → k < 256 → long k ≤ 8
long_le k h = lt_or_le 8 (long k) (λ l. omega (arith, pow_mono {i = 9} {j = long k} l, (width_exactly k (omega arith)).1)) (λ l. l)

pub place_zero : parent_place 0 ≡ 9
unfolding parent_place
place_zero = refl

pub place_suc : (k : ℕ) → parent_place (suc k) ≡ parent_place k + long k
unfolding parent_place
place_suc k = refl

pub place_le : (k : ℕ) → k ≤ 256 → parent_place k ≤ 9 + 8 * k
unfolding parent_place
place_le zero h = omega arith
place_le (suc k) h = omega (arith, place_le k (omega arith), long_le k (omega arith))

-- a parent field of up to 256 nodes ends within the usable bytes
pub field_near : (k at w : ℕ) → k < 256 → at ≡ parent_place k → w ≡ long k → at + w ≤ 524288
field_near k at w h a e = omega (arith, long_le k h, place_le k (omega arith))

-- where the fields of 256 nodes end
pub place_last : parent_place 255 ≡ 1794
unfolding parent_place long count_leading_zeros
place_last = refl

-- later fields lie behind earlier ones
pub place_up : (j k : ℕ) → j ≤ k → parent_place j ≤ parent_place k
place_up j zero h = let e : j ≡ 0 = omega arith in rw e (omega arith)
place_up j (suc k) h =
    lt_or_le j (suc k) (λ l. omega (arith, place_up j k (omega arith), place_suc k)) (λ l. let e : j ≡ suc k = omega arith in rw e (omega arith))
