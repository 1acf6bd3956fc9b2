-- The table of a tree, and what the writer answers and leaves.
use Rattle.std.specs.Prelude.{◌≡◌, true, false, cond, ◌&&◌, List, [], ◌∷◌, ◌++◌, ℕ, zero, suc, ◌-◌, ◌≤◌, ◌<◌, leb, length, drop}
use Rattle.packed.specs.Parts.{Part, packed}
use Rattle.tree.specs.Parents.{parent, in_rule}
use Rattle.tree.specs.declared.Tree.{Tree}
use Rattle.table.specs.Layout.{long, table_size}
use Rattle.table.specs.Told.{Written}

-- the parent fields of m nodes from node k + 1 on
unfoldable pub node_parts : List ℕ → ℕ → ℕ → List Part
node_parts ps k zero = []
node_parts ps k (suc m) = record { width = long k; number = parent ps (suc k) } ∷ node_parts ps (suc k) m

-- the fields of a tree's table: the count in 9 bits, and the parents
abbrev pub table_parts : Tree → List Part
table_parts t = record { width = 9; number = t.count } ∷ node_parts t.parents 0 (t.count - 1)

-- the bytes of a tree's table
abbrev pub table_of : Tree → List ℕ
table_of t = packed (table_parts t)

-- What the writer answers with room for so many bytes: 6 for a tree out of rule, then 9 where the room is too short.
pub data Answered (t : Tree) (room : ℕ) : Written → Type 0 where
  six : in_rule t.parents t.count ≡ false → Answered t room (record { refusal = 6; bytes = 0 })
  nine : in_rule t.parents t.count ≡ true → room < table_size t.count → Answered t room (record { refusal = 9; bytes = 0 })
  done : in_rule t.parents t.count ≡ true → table_size t.count ≤ room → Answered t room (record { refusal = 0; bytes = table_size t.count })

-- what the writer answers, as a computation
unfoldable pub written_of : Tree → ℕ → Written
written_of t room =
    cond (in_rule t.parents t.count)
    (cond (leb (table_size t.count) room) (record { refusal = 0; bytes = table_size t.count }) (record { refusal = 9; bytes = 0 }))
    (record { refusal = 6; bytes = 0 })

-- the output that the writer leaves: the table, and later bytes as they were; all bytes as they were where it refuses
unfoldable pub output_of : Tree → List ℕ → List ℕ
output_of t out = cond (in_rule t.parents t.count && leb (table_size t.count) (length out)) (table_of t ++ drop (table_size t.count) out) out
