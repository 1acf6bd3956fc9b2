-- A leaf that joins a tree, and a leaf that goes.
use Rattle.std.specs.Prelude.{◌≡◌, cond, ◌≢◌, List, ℕ, suc, ◌-◌, ◌<◌, ltb}
use Rattle.tree.specs.Parents.{parent}

-- qs is ps with one leaf more, which has the number n and the parent p
pub record Joins (ps : List ℕ) (n p : ℕ) (qs : List ℕ) : Type 0 where
  pub there : p < n
  pub old : (j : ℕ) → j < n → parent qs j ≡ parent ps j
  pub new : parent qs n ≡ p

-- the new number of a node where the leaf x goes, and the old number of a new one: numbers above x go down by one
abbrev pub new_number : ℕ → ℕ → ℕ
new_number x j = cond (ltb x j) (j - 1) j

abbrev pub old_number : ℕ → ℕ → ℕ
old_number x j = cond (ltb j x) j (suc j)

-- qs is ps without its leaf x, of m + 1 nodes before and m after
pub record Goes (ps : List ℕ) (m x : ℕ) (qs : List ℕ) : Type 0 where
  pub not_root : 0 < x
  pub leaf : (j : ℕ) → 0 < j → j < suc m → parent ps j ≢ x
  pub moved : (j : ℕ) → 0 < j → j < m → parent qs j ≡ new_number x (parent ps (old_number x j))
