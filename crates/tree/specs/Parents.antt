-- A tree by its parent numbers: node 0 is the root, and every other node's parent is smaller than the node.
use Rattle.std.specs.Prelude.{◌≡◌, Bool, cond, ◌&&◌, ◌⊎◌, List, ℕ, ◌≤◌, ◌<◌, eqb, ltb, leb, get_or}
use Rattle.tree.specs.Every.{every}

-- the parent of node i
abbrev pub parent : List ℕ → ℕ → ℕ
parent ps i = get_or ps i 0

-- w is a child of u
abbrev pub child : List ℕ → ℕ → ℕ → Bool
child ps u w = ltb u w && eqb (parent ps w) u

-- each node from 1 to n - 1 has a smaller parent
abbrev pub Grown : List ℕ → ℕ → Type 0
Grown ps n = (i : ℕ) → 0 < i → i < n → parent ps i < i

-- A tree in rule: its count is 1 to 256, each parent is smaller than its child, and entries not used are zero.
pub record InRule (ps : List ℕ) (n : ℕ) : Type 0 where
  pub some : 1 ≤ n
  pub few : n ≤ 256
  pub grown : Grown ps n
  pub unused : (i : ℕ) → i < 256 → (i ≡ 0) ⊎ (n ≤ i) → parent ps i ≡ 0

-- the rule as a test: of p as the entry at i, of the tree's entry at i, and of the tree
unfoldable pub entry_in_rule : ℕ → ℕ → ℕ → Bool
entry_in_rule n i p = cond (ltb 0 i && ltb i n) (ltb p i) (eqb p 0)

abbrev pub place_in_rule : List ℕ → ℕ → ℕ → Bool
place_in_rule ps n i = entry_in_rule n i (parent ps i)

unfoldable pub in_rule : List ℕ → ℕ → Bool
in_rule ps n = leb 1 n && (leb n 256 && every (place_in_rule ps n) 256)
