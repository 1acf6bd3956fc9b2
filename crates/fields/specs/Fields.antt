-- A field of any width at any place: its bits in order, the most significant first. One rule for all widths.
use Rattle.std.specs.Prelude.{ℕ, zero, suc, ◌+◌, ◌*◌, ◌/◌, ◌%◌, List}
use Rattle.fields.specs.Bits.{bit, put_bit}

-- the number in the w bits from place on
unfoldable pub field : List ℕ → ℕ → ℕ → ℕ
field s place zero = 0
field s place (suc w) = field s place w * 2 + bit s (place + w)

-- the bytes s with the low w bits of v in the w bits from place on
unfoldable pub put_field : List ℕ → ℕ → ℕ → ℕ → List ℕ
put_field s place zero v = s
put_field s place (suc w) v = put_field (put_bit s (place + w) (v % 2)) place w (v / 2)
