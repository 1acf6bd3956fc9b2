-- What is promised of every packed format. The theorem that proves a statement bears its name in small letters.
use Rattle.std.specs.Prelude.{◌≡◌, true, false, List, ◌++◌, ◌⊎◌, ◌↔◌, ℕ, ◌+◌, ◌*◌, ◌≤◌, ◌<◌, length}
use Rattle.fields.specs.Bits.{Bytes}
use Rattle.fields.specs.Fields.{field}
use Rattle.fields.specs.Usable.{usable_bits}
use Rattle.packed.specs.Parts.{Part, Fit, bits_of_parts, bytes_for, left, put_all, packed, Packs, ends}

-- Bytes hold packed parts exactly where they are those that packing writes.
abbrev pub ExactlyPacked : Type 0
ExactlyPacked = (s : List ℕ) (ps : List Part) → Bytes s → Fit ps → Packs s ps ↔ (s ≡ packed ps)

-- What packing writes are bytes.
abbrev pub PackedBytes : Type 0
PackedBytes = (ps : List Part) → Bytes (packed ps)

-- What is written into the front of a byte list leaves the rest.
abbrev pub RestKept : Type 0
RestKept = (a b : List ℕ) (place : ℕ) (ps : List Part) → place + bits_of_parts ps ≤ 8 * length a → put_all (a ++ b) place ps ≡ put_all a place ps ++ b

-- The test of an end holds exactly where the place is in the usable bytes, no byte is left over, and no filling bit is set.
abbrev pub EndsExactly : Type 0
EndsExactly = (s : List ℕ) (place : ℕ) → (ends s place ≡ true) ↔ ((place ≤ usable_bits (length s)) × (length s ≡ bytes_for place) × (field s place (left place) ≡ 0))

-- At a place in the usable bytes the test of an end fails exactly where bytes are left over or a filling bit is set.
abbrev pub LeftOverExactly : Type 0
LeftOverExactly = (s : List ℕ) (place : ℕ) → place ≤ usable_bits (length s) → (ends s place ≡ false) ↔ ((bytes_for place < length s) ⊎ (0 < field s place (left place)))
