-- What reading and writing a field answer: only the first 65,536 bytes, or all of fewer, are ever used.
use Rattle.std.specs.Prelude.{ℕ, ◌+◌, ◌*◌, ◌^◌, min, List, Bool, cond, ◌&&◌, length, leb, ltb, Result, Ok, Err}
use Rattle.fields.specs.Fields.{field, put_field}
use Rattle.refusal.specs.declared.Refusal.{Refusal}
use Rattle.refusal.specs.declared.Refusal.TheVariants.{Short}

-- how many bits of n bytes are ever used
abbrev pub usable_bits : ℕ → ℕ
usable_bits n = 8 * min n 65536

-- the w bits from place on are at most 64 and lie in the usable ones of n bytes
unfoldable pub lies : ℕ → ℕ → ℕ → Bool
lies n place w = leb w 64 && leb (place + w) (usable_bits n)

-- the w bits from place on are at most 64, lie in the usable ones of n bytes, and have room for v
unfoldable pub takes : ℕ → ℕ → ℕ → ℕ → Bool
takes n place w v = lies n place w && ltb v (2 ^ w)

-- what reading the w bits from place on answers
unfoldable pub field_at : List ℕ → ℕ → ℕ → Result ℕ Refusal
field_at s place w = cond (lies (length s) place w) (Ok (field s place w)) (Err Short)

-- what writing v into the w bits from place on leaves
unfoldable pub put_at : List ℕ → ℕ → ℕ → ℕ → List ℕ
put_at s place w v = cond (takes (length s) place w v) (put_field s place w v) s
