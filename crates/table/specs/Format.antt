-- What the format says of bytes: which number each gets, in document 01's words.
use Rattle.std.specs.Prelude.{◌≡◌, ◌⊎◌, List, ℕ, suc, ◌+◌, ◌-◌, ◌*◌, ◌≤◌, ◌<◌, length}
use Rattle.fields.specs.Fields.{field}
use Rattle.packed.specs.Parts.{left}
use Rattle.table.specs.Layout.{parent_place, table_size, count_at, parent_at}

-- the count n of a table is there, and it is 1 to 256
pub record Counted (s : List ℕ) (n : ℕ) : Type 0 where
  pub there : 9 ≤ 8 * length s
  pub count : n ≡ count_at s
  pub some : 1 ≤ n
  pub few : n ≤ 256

-- the parent field of node k + 1 is there, and the parent is smaller than the node
pub record GoodParent (s : List ℕ) (k : ℕ) : Type 0 where
  pub there : parent_place (suc k) ≤ 8 * length s
  pub smaller : parent_at s k < suc k

-- the parent fields of nodes 1 to k are there, and each parent is smaller than its node
abbrev pub GoodParents : List ℕ → ℕ → Type 0
GoodParents s k = (j : ℕ) → j < k → GoodParent s j

-- the filling bits behind the fields of n nodes
abbrev pub filling : List ℕ → ℕ → ℕ
filling s n = field s (parent_place (n - 1)) (left (parent_place (n - 1)))

-- The fields are judged in their order, the first fault decides, and 4 comes last. 0 is no refusal.
pub data Ruled (s : List ℕ) : ℕ → Type 0 where
  -- the table ends before its count
  no_count : 8 * length s < 9 → Ruled s 1
  -- the count is 0 or above 256
  bad_count : 9 ≤ 8 * length s → (count_at s ≡ 0) ⊎ (256 < count_at s) → Ruled s 2
  -- the table ends before the parent of node k + 1
  no_parent : (n k : ℕ) → Counted s n → GoodParents s k → k + 1 < n → 8 * length s < parent_place (suc k) → Ruled s 1
  -- the parent of node k + 1 is not smaller than the node
  bad_parent : (n k : ℕ) → Counted s n → GoodParents s k → k + 1 < n → parent_place (suc k) ≤ 8 * length s → suc k ≤ parent_at s k → Ruled s 3
  -- bytes are left over, or a filling bit is set
  left_over : (n : ℕ) → Counted s n → GoodParents s (n - 1) → (table_size n < length s) ⊎ (0 < filling s n) → Ruled s 4
  whole : (n : ℕ) → Counted s n → GoodParents s (n - 1) → length s ≡ table_size n → filling s n ≡ 0 → Ruled s 0
