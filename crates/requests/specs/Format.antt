-- What the format says of bytes: which number each gets, in document 01's words.
use Rattle.std.specs.Prelude.{◌≡◌, ◌⊎◌, List, ℕ, suc, ◌*◌, ◌≤◌, ◌<◌, length}
use Rattle.fields.specs.Fields.{field}
use Rattle.packed.specs.Parts.{bytes_for, left}
use Rattle.requests.specs.Reading.{count_at, place_of}

-- the count n of a list is there, and it is at most 4,096
pub record Counted (s : List ℕ) (n : ℕ) : Type 0 where
  pub there : 13 ≤ 8 * length s
  pub count : n ≡ count_at s
  pub few : n ≤ 4096

-- The fields are judged in their order, the first fault decides, and 4 comes last. 0 is no refusal.
pub data Ruled (s : List ℕ) : ℕ → Type 0 where
  -- the list ends before its count
  no_count : 8 * length s < 13 → Ruled s 1
  -- the count is above 4,096
  bad_count : 13 ≤ 8 * length s → 4096 < count_at s → Ruled s 5
  -- the list ends in or before request k, and not sooner
  no_request : (n k : ℕ) → Counted s n → k < n → place_of s k ≤ 8 * length s → 8 * length s < place_of s (suc k) → Ruled s 1
  -- bytes are left over, or a filling bit is set
  left_over : (n : ℕ) → Counted s n → place_of s n ≤ 8 * length s → (bytes_for (place_of s n) < length s) ⊎ (0 < field s (place_of s n) (left (place_of s n))) → Ruled s 4
  whole : (n : ℕ) → Counted s n → length s ≡ bytes_for (place_of s n) → field s (place_of s n) (left (place_of s n)) ≡ 0 → Ruled s 0
