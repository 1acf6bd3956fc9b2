-- Paths through a tree: from neighbour to neighbour, and never straight back.
use Rattle.std.specs.Prelude.{◌≡◌, true, ◌≢◌, List, ℕ, ◌<◌}
use Rattle.tree.specs.Sides.{adjacent}

-- u and v are neighbours, and v is on the path from u to x: it is x, or the path goes on from v to another neighbour w
pub data Way (ps : List ℕ) (n : ℕ) : ℕ → ℕ → ℕ → Type 0 where
  arrives : {u v : ℕ} → u < n → v < n → adjacent ps u v ≡ true → Way ps n u v v
  goes_on : {u v w x : ℕ} → u < n → v < n → adjacent ps u v ≡ true → u ≢ w → Way ps n v w x → Way ps n u v x
