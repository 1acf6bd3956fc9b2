-- What is promised of fields, over any width and place. The theorem that proves a statement bears its name in small letters.
use Rattle.std.specs.Prelude.{◌≡◌, true, false, ◌⊎◌, ◌↔◌, List, ℕ, ◌+◌, ◌*◌, ◌^◌, ◌≤◌, ◌<◌, length, take}
use Rattle.fields.specs.Bits.{Bytes, bit}
use Rattle.fields.specs.Fields.{field, put_field}
use Rattle.fields.specs.Usable.{usable_bits, takes, field_at, put_at}
use Rattle.refusal.specs.Numbers.{told}

-- A field reads back as it was written.
abbrev pub ReadBack : Type 0
ReadBack = (s : List ℕ) (place w v : ℕ) → v < 2 ^ w → place + w ≤ 8 * length s → field (put_field s place w v) place w ≡ v

-- Writing back what was read changes nothing.
abbrev pub WriteBack : Type 0
WriteBack = (s : List ℕ) (place w : ℕ) → put_field s place w (field s place w) ≡ s

-- Bits outside a written field keep their values, also inside a shared byte.
abbrev pub OutsideKept : Type 0
OutsideKept = (s : List ℕ) (place w v k : ℕ) → (k < place) ⊎ (place + w ≤ k) → bit (put_field s place w v) k ≡ bit s k

-- A field apart from a written one reads as before.
abbrev pub ApartKept : Type 0
ApartKept = (s : List ℕ) (place w v from n : ℕ) → (from + n ≤ place) ⊎ (place + w ≤ from) → field (put_field s place w v) from n ≡ field s from n

-- Writing keeps the length, and bytes stay bytes.
abbrev pub LengthKept : Type 0
LengthKept = (s : List ℕ) (place w v : ℕ) → length (put_field s place w v) ≡ length s

abbrev pub BytesKept : Type 0
BytesKept = (s : List ℕ) (place w v : ℕ) → Bytes s → Bytes (put_field s place w v)

-- Two byte lists with the same bits are equal.
abbrev pub SameBits : Type 0
SameBits = (s t : List ℕ) → length s ≡ length t → Bytes s → Bytes t → ((k : ℕ) → bit s k ≡ bit t k) → s ≡ t

-- What was written is the only byte list that holds the number and is otherwise as before.
abbrev pub OnlyOne : Type 0
OnlyOne = (s t : List ℕ) (place w v : ℕ) → Bytes s → Bytes t → length t ≡ length s → place + w ≤ 8 * length s → v < 2 ^ w
    → field t place w ≡ v → ((k : ℕ) → (k < place) ⊎ (place + w ≤ k) → bit t k ≡ bit s k) → t ≡ put_field s place w v

-- One field of a + b bits is two fields, read and written.
abbrev pub ReadTwo : Type 0
ReadTwo = (s : List ℕ) (place a b : ℕ) → field s place (a + b) ≡ field s place a * 2 ^ b + field s (place + a) b

abbrev pub WriteTwo : Type 0
WriteTwo = (s : List ℕ) (place a b x y : ℕ) → y < 2 ^ b → put_field s place (a + b) (x * 2 ^ b + y) ≡ put_field (put_field s (place + a) b y) place a x

-- The first n bytes have every field that lies in them.
abbrev pub ReadOfFirst : Type 0
ReadOfFirst = (n : ℕ) (s : List ℕ) (place w : ℕ) → place + w ≤ 8 * n → field (take n s) place w ≡ field s place w

-- Reading finds the number exactly where the field is at most 64 bits wide and lies in the usable bytes.
abbrev pub FoundExactly : Type 0
FoundExactly = (s : List ℕ) (place w v : ℕ) → (told 0 (field_at s place w) ≡ (0, v)) ↔ ((w ≤ 64) × (place + w ≤ usable_bits (length s)) × (v ≡ field s place w))

-- Reading is refused, with 1 and a zero, exactly where the field is wider than 64 bits or does not lie in the usable bytes.
abbrev pub NotFoundExactly : Type 0
NotFoundExactly = (s : List ℕ) (place w : ℕ) → (told 0 (field_at s place w) ≡ (1, 0)) ↔ ((64 < w) ⊎ (usable_bits (length s) < place + w))

-- Writing takes a number exactly where the field is at most 64 bits wide, lies in the usable bytes and has room for it.
abbrev pub TakenExactly : Type 0
TakenExactly = (n place w v : ℕ) → (takes n place w v ≡ true) ↔ ((w ≤ 64) × (place + w ≤ usable_bits n) × (v < 2 ^ w))

-- A number that was taken is read; a number that was not taken changes nothing.
abbrev pub TakenIsRead : Type 0
TakenIsRead = (s : List ℕ) (place w v : ℕ) → takes (length s) place w v ≡ true → told 0 (field_at (put_at s place w v) place w) ≡ (0, v)

abbrev pub RefusedIsKept : Type 0
RefusedIsKept = (s : List ℕ) (place w v : ℕ) → takes (length s) place w v ≡ false → put_at s place w v ≡ s
