-- The way round a node, from neighbour to neighbour: how it begins, when it may go on, and what a call gives.
use Rattle.std.specs.Prelude.{◌≡◌, Option, MatchOption, ℕ, ◌-◌, ◌<◌, ◌≤◌}
use Rattle.std.specs.Iterator.{Count, at_most}
use Rattle.tree.specs.declared.Tree.{Tree}
use Rattle.walk.specs.inner.Links.{Found, Linked, neighbour_at, Going, Turned}
use Rattle.aggregate.specs.declared.links.Links.{Links}
use Rattle.aggregate.specs.declared.links.Neighbours.{Neighbours}

-- u is a node of a tree, and these are the tree's links
pub record At (links : Links) (tree : Tree) (u : ℕ) : Type 0 where
  pub room : tree.count ≤ 256
  pub inside : u < tree.count
  pub linked : Linked tree.count tree.parents links.first links.next

-- s goes round u, by these links of this tree
pub record Round (links : Links) (tree : Tree) (u : ℕ) (s : Neighbours) : Type 0 where
  pub by : s.links.now ≡ links
  pub of : s.tree.now ≡ tree
  pub at : s.node ≡ u

-- s may go on: its place is a neighbour's, or past the last candidate
abbrev pub MayGo : Neighbours → Type 0
MayGo s = Going s.tree.now.count s.tree.now.parents s.links.now.first s.links.now.next s.node s.place

-- a call gives the candidate at the place, and leads to that of the next neighbour; past the last candidate it gives none
abbrev pub Goes : Neighbours → Option ℕ → Neighbours → Type 0
Goes s r t = Round s.links.now s.tree.now s.node t × MatchOption r (s.place ≡ s.tree.now.count) (λ w. Turned s.tree.now.count s.tree.now.parents s.node s.place w t.place)

-- no more neighbours come than candidates are left
abbrev pub left_of : Neighbours → Count
left_of s = at_most (s.tree.now.count - s.place)

-- s goes round u from its first neighbour on
pub record Begun (links : Links) (tree : Tree) (u : ℕ) (s : Neighbours) : Type 0 where
  pub round : Round links tree u s
  pub first : Found tree.count (neighbour_at tree.count tree.parents u) 0 s.place
  pub may : MayGo s
