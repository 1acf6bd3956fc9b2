-- What the functions that make the session after a request ask for, and what they leave.
use Rattle.std.specs.Prelude.{◌≡◌, List, ℕ, ◌<◌, ◌≤◌, get_or, length}
use Rattle.tree.specs.Parents.{Grown}
use Rattle.session.specs.declared.Session.{Session}
use Rattle.mechanism.specs.Applying.{Links}

-- the session with these pairs
abbrev pub paired : Session → Links → Session
paired s l = record { tree = s.tree; values = s.values; up = l.up; down = l.down; accepted = s.accepted }

-- no count of messages is above m
pub record Counts (m : ℕ) (l : Links) : Type 0 where
  pub up_few : (i : ℕ) → get_or l.up.messages i 0 ≤ m
  pub down_few : (i : ℕ) → get_or l.down.messages i 0 ≤ m

-- x is a node of a tree, and there are 256 numbers of each direction
pub record Climbing (ps : List ℕ) (n x : ℕ) (up down : List ℕ) : Type 0 where
  pub room : n ≤ 256
  pub grown : Grown ps n
  pub inside : x < n
  pub up_long : length up ≡ 256
  pub down_long : length down ≡ 256

-- the same of a session's tree and its numbers
abbrev pub Raisable : Session → ℕ → Type 0
Raisable s x = Climbing s.tree.parents s.tree.count x s.up.lease s.down.lease
