-- Neighbours, and the two sides of the edge between them. ps are the parents, n is the count.
use Rattle.std.specs.Prelude.{Bool, not, cond, ◌&&◌, ◌||◌, List, ℕ, zero, suc, eqb, ltb}
use Rattle.tree.specs.Parents.{parent}

-- i is met within k steps from j towards the root
unfoldable pub climb : List ℕ → ℕ → ℕ → ℕ → Bool
climb ps i zero j = eqb j i
climb ps i (suc k) zero = eqb zero i
climb ps i (suc k) (suc j) = eqb (suc j) i || climb ps i k (parent ps (suc j))

-- node j is node i, or below it
unfoldable pub below : List ℕ → ℕ → ℕ → Bool
below ps i j = climb ps i j j

-- u and w are nodes in a tree of n
unfoldable pub nodes : ℕ → ℕ → ℕ → Bool
nodes n u w = ltb u n && ltb w n

-- i and j are nodes in a tree of n, and j is i or below it
unfoldable pub is_below : List ℕ → ℕ → ℕ → ℕ → Bool
is_below ps n i j = nodes n i j && below ps i j

-- u and w have an edge between them: the larger is the child
abbrev pub adjacent : List ℕ → ℕ → ℕ → Bool
adjacent ps u w = cond (ltb u w) (eqb (parent ps w) u) (ltb w u && eqb (parent ps u) w)

-- u and w are nodes in a tree of n, and have an edge between them
unfoldable pub neighbours : List ℕ → ℕ → ℕ → ℕ → Bool
neighbours ps n u w = nodes n u w && adjacent ps u w

-- j is on u's side of the edge of the neighbours u and v
abbrev pub side : List ℕ → ℕ → ℕ → ℕ → Bool
side ps u v j = cond (ltb v u) (below ps u j) (not (below ps v j))

-- (u,v) points to x when v is on the path from u to x: x is on v's side
abbrev pub points_to : List ℕ → ℕ → ℕ → ℕ → Bool
points_to ps u v x = side ps v u x

-- w is a neighbour of u, and not v
abbrev pub other : List ℕ → ℕ → ℕ → ℕ → Bool
other ps u v w = adjacent ps w u && not (eqb v w)
