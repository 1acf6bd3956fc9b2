-- Tests of places, as passes over arrays make them.
use Rattle.std.specs.Prelude.{Bool, ◌&&◌, ◌||◌, ℕ, ltb}
use Rattle.tree.specs.Every.{every}

-- a test from place k on
abbrev pub from : ℕ → (ℕ → Bool) → ℕ → Bool
from k test i = ltb i k || test i

-- a test of the places 1 to n - 1, at which a tree of n nodes holds what belongs to a child, and another of the places of 256 at which it does not
abbrev pub places : ℕ → (ℕ → Bool) → (ℕ → Bool) → Bool
places n used unused = (every (from 0 unused) 1 && every (from 1 used) n) && every (from n unused) 256
