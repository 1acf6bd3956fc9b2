-- How many nodes are on a side, and below each node.
use Rattle.std.specs.Prelude.{cond, List, [], ◌∷◌, ◌++◌, ℕ, zero, suc, ltb, replicate}
use Rattle.tree.specs.Parents.{in_rule}
use Rattle.tree.specs.Sides.{below, side}
use Rattle.tree.specs.Operation.{aggregate, plus}

-- how many nodes are on u's side of its edge to v
abbrev pub size : List ℕ → ℕ → ℕ → ℕ → ℕ
size ps n u v = aggregate plus (λ j. 1) (side ps u v) n

-- how many nodes are at or below node i
abbrev pub size_below : List ℕ → ℕ → ℕ → ℕ
size_below ps n i = aggregate plus (λ j. 1) (below ps i) n

-- 1 for each of n nodes, 0 where there is no node
abbrev pub ones : ℕ → ℕ → ℕ
ones n i = cond (ltb i n) 1 0

-- f 0 to f (n - 1) as a list
unfoldable pub listed : (ℕ → ℕ) → ℕ → List ℕ
listed f zero = []
listed f (suc n) = listed f n ++ (f n ∷ [])

-- the sizes below all nodes of a tree in rule, and zeros for a tree out of rule
unfoldable pub sizes : List ℕ → ℕ → List ℕ
sizes ps n = cond (in_rule ps n) (listed (size_below ps n) 256) (replicate 256 0)
