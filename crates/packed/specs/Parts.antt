-- Fields packed one behind the other from bit 0 on, with zero bits to the byte.
use Rattle.std.specs.Prelude.{◌≡◌, Bool, ◌&&◌, List, [], ◌∷◌, ℕ, ◌+◌, ◌-◌, ◌*◌, ◌/◌, ◌^◌, ◌<◌, eqb, leb, length, replicate}
use Rattle.fields.specs.Fields.{field, put_field}
use Rattle.fields.specs.Usable.{usable_bits}

-- a field's width and the number in it
pub record Part : Type 0 where
  pub width : ℕ
  pub number : ℕ

-- every number has room in its field
abbrev pub Fit : List Part → Type 0
Fit [] = Unit
Fit (p ∷ ps) = (p.number < 2 ^ p.width) × Fit ps

-- how many bits the parts take, and how many bytes so many bits take
unfoldable pub bits_of_parts : List Part → ℕ
bits_of_parts [] = 0
bits_of_parts (p ∷ ps) = p.width + bits_of_parts ps

abbrev pub bytes_for : ℕ → ℕ
bytes_for bits = (bits + 7) / 8

-- the bits behind a place, up to the byte
abbrev pub left : ℕ → ℕ
left place = 8 * bytes_for place - place

-- the bytes s with the parts written one behind the other from place on
unfoldable pub put_all : List ℕ → ℕ → List Part → List ℕ
put_all s place [] = s
put_all s place (p ∷ ps) = put_all (put_field s place p.width p.number) (place + p.width) ps

-- the parts as bytes
abbrev pub packed : List Part → List ℕ
packed ps = put_all (replicate (bytes_for (bits_of_parts ps)) 0) 0 ps

-- the fields from place on hold the parts
abbrev pub Holds : List ℕ → ℕ → List Part → Type 0
Holds s place [] = Unit
Holds s place (p ∷ ps) = (field s place p.width ≡ p.number) × Holds s (place + p.width) ps

-- the bytes s are the parts, filled with zero bits to the byte, and no byte more
pub record Packs (s : List ℕ) (ps : List Part) : Type 0 where
  pub bytes : length s ≡ bytes_for (bits_of_parts ps)
  pub parts : Holds s 0 ps
  pub filling : field s (bits_of_parts ps) (left (bits_of_parts ps)) ≡ 0

-- the bytes s end at place: no byte is left over, and no filling bit is set
unfoldable pub ends : List ℕ → ℕ → Bool
ends s place = leb place (usable_bits (length s)) && (eqb (length s) (bytes_for place) && eqb (field s place (left place)) 0)
