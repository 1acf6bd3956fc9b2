-- What the reader answers, as a computation.
use Rattle.std.specs.Prelude.{cond, ◌&&◌, List, ℕ, zero, suc, ◌-◌, ◌*◌, leb, length, set, replicate}
use Rattle.packed.specs.Parts.{ends}
use Rattle.tree.specs.declared.Tree.{Tree}
use Rattle.table.specs.Layout.{parent_place, count_at, parent_at}
use Rattle.table.specs.Told.{Reading}

-- the earlier of two refusals; 0 is none
abbrev pub first : ℕ → ℕ → ℕ
first zero later = later
first (suc r) later = suc r

-- the fault of node k + 1, and the first fault of nodes 1 to k; 0 is none
abbrev pub node_fault : List ℕ → ℕ → ℕ
node_fault s k = cond (leb (parent_place (suc k)) (8 * length s)) (cond (leb (parent_at s k) k) 0 3) 1

unfoldable pub nodes_fault : List ℕ → ℕ → ℕ
nodes_fault s zero = 0
nodes_fault s (suc k) = first (nodes_fault s k) (node_fault s k)

-- the first fault of the count n and all that follows it, and that of the whole table; 0 is none
abbrev pub rest_fault : List ℕ → ℕ → ℕ
rest_fault s n = first (cond (leb 1 n && leb n 256) 0 2) (first (nodes_fault s (n - 1)) (cond (ends s (parent_place (n - 1))) 0 4))

unfoldable pub refusal_of : List ℕ → ℕ
refusal_of s = cond (leb 9 (8 * length s)) (rest_fault s (count_at s)) 1

-- the parents of nodes 1 to k, zeros for all other nodes, and the tree that a table holds
unfoldable pub parents_of : List ℕ → ℕ → List ℕ
parents_of s zero = replicate 256 0
parents_of s (suc k) = set (parents_of s k) (suc k) (parent_at s k)

abbrev pub tree_of : List ℕ → Tree
tree_of s = record { count = count_at s; parents = parents_of s (count_at s - 1) }

-- what reading a table answers: 0 and the tree, or a refusal and zeros
abbrev pub accepted : Tree → Reading
accepted t = record { refusal = 0; tree = t }

abbrev pub refused : ℕ → Reading
refused r = record { refusal = r; tree = record { count = 0; parents = replicate 256 0 } }

abbrev pub answer : ℕ → Tree → Reading
answer zero t = accepted t
answer (suc r) t = refused (suc r)

unfoldable pub reading_of : List ℕ → Reading
reading_of s = answer (refusal_of s) (tree_of s)
