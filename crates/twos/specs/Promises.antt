-- What is promised of two's complement, over any width. The theorem that proves a statement bears its name in small letters.
use Rattle.std.specs.Prelude.{◌≡◌, true, ◌↔◌, List, ℕ, ◌<◌, ℤ, pos}
use Rattle.refusal.specs.Numbers.{told}
use Rattle.fields.specs.Usable.{field_at}
use Rattle.twos.specs.Twos.{signed, within, encoded, decoded, decoded32}

-- A value becomes a number of w bits, two's complement, exactly where that number becomes the value; and so for an i32.
abbrev pub RoundTrip : Type 0
RoundTrip = (w n : ℕ) (z : ℤ) → (told 0 (encoded w z) ≡ (0, n)) ↔ (told (pos 0) (decoded w n) ≡ (0, z))

abbrev pub RoundTrip32 : Type 0
RoundTrip32 = (w n : ℕ) (z : ℤ) → ((told 0 (encoded w z) ≡ (0, n)) × (within 32 z ≡ true)) ↔ (told (pos 0) (decoded32 w n) ≡ (0, z))

-- A number that was read from a field of at least 1 bit stands for a value.
abbrev pub ReadDecodes : Type 0
ReadDecodes = (s : List ℕ) (place w n : ℕ) → 0 < w → told 0 (field_at s place w) ≡ (0, n) → told (pos 0) (decoded w n) ≡ (0, signed w n)
