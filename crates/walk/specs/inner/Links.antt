-- A node's neighbours by links: the first child of each node, and the next child of its parent.
use Rattle.std.specs.Prelude.{◌≡◌, Bool, true, false, List, ℕ, ◌+◌, ◌<◌, ◌≤◌, get_or}
use Rattle.tree.specs.Parents.{parent, Grown, child}
use Rattle.tree.specs.Sides.{adjacent}
use Rattle.tree.specs.Turns.{turn}

-- r is the first place from k on, and below n, that passes the test; n if there is none
pub record Found (n : ℕ) (test : ℕ → Bool) (k r : ℕ) : Type 0 where
  pub from : k ≤ r
  pub upto : r ≤ n
  pub skipped : (j : ℕ) → k ≤ j → j < r → test j ≡ false
  pub found : r < n → test r ≡ true

-- first[u] is the least child of u, and next[w] the least child above w of w's parent; n for none
pub record Linked (n : ℕ) (ps first next : List ℕ) : Type 0 where
  pub grown : Grown ps n
  pub firsts : (u : ℕ) → u < n → Found n (child ps u) (u + 1) (get_or first u 0)
  pub nexts : (w : ℕ) → 0 < w → w < n → Found n (child ps (parent ps w)) (w + 1) (get_or next w 0)

-- u's candidate at place k is a neighbour
unfoldable pub neighbour_at : ℕ → List ℕ → ℕ → ℕ → Bool
neighbour_at n ps u k = adjacent ps (turn n u k) u

-- the way round u may go on at the place k: it is a neighbour's, or past the last candidate
pub record Going (n : ℕ) (ps first next : List ℕ) (u k : ℕ) : Type 0 where
  pub room : n ≤ 256
  pub inside : u < n
  pub linked : Linked n ps first next
  pub upto : k ≤ n
  pub beside : k < n → neighbour_at n ps u k ≡ true

-- u's candidate w at the place k is a neighbour, and r is the place of the next one
pub record Turned (n : ℕ) (ps : List ℕ) (u k w r : ℕ) : Type 0 where
  pub place : k < n
  pub turned : w ≡ turn n u k
  pub beside : neighbour_at n ps u k ≡ true
  pub next : Found n (neighbour_at n ps u) (k + 1) r
