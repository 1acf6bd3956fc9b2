-- The range of a sum of k values of 32 bits: from -k x 2^31 to k x (2^31 - 1).
use Rattle.std.specs.Prelude.{◌≡◌, Bool, true, ◌&&◌, ℕ, ◌*◌, ℤ, pos, neg_ℤ}
use Rattle.std.specs.Int.Signed.{le_z}

unfoldable pub in_range : ℕ → ℤ → Bool
in_range k z = le_z (neg_ℤ (pos (k * 2147483648))) z && le_z z (pos (k * 2147483647))

pub record Range (k : ℕ) (z : ℤ) : Type 0 where
  pub within : in_range k z ≡ true
