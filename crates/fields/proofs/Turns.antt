-- One turn of each loop over a field's bits.
use mathlib.Core.Path.{◌≡◌, ap, ◌∙◌}
use mathlib.Core.List.{List}
use Prim.Native.Nat.{ℕ, suc, ◌+◌, ◌-◌, ◌*◌, ◌/◌, ◌%◌, ◌^◌, ◌<◌}
use native.Mathlib.Numerals.{add-one}
use native.Mathlib.Omega.{arith}
use lib.Pow.{pow_mono}
use Rattle.fields.specs.Bits.{bit, put_bit}
use Rattle.fields.specs.Fields.{field, put_field}
use Rattle.fields.proofs.ReadBack.{field_lt}

-- ---- reading, the first bit first

pub read_turn : (s : List ℕ) (place w : ℕ) → field s place (w + 1) ≡ field s place w * 2 + bit s (place + w)
unfolding field
read_turn s place w = rw (add-one w)

-- one bit more fits a u64
pub read_room : (s : List ℕ) (place w : ℕ) → w < 64 → field s place w * 2 + 1 < 2 ^ 64
read_room s place w h = omega (arith, field_lt s place w, pow_mono {i = w} {j = 63} (omega arith))

-- ---- writing, the last bit first

pub write_turn : (s t : List ℕ) (place w v : ℕ) → 0 < w → t ≡ put_bit s (place + (w - 1)) (v % 2) → put_field t place (w - 1) (v / 2) ≡ put_field s place w v
unfolding put_field
write_turn s t place w v h e =
    ap (λ (l : List ℕ). put_field l place (w - 1) (v / 2)) e
    ∙ ap (λ (n : ℕ). put_field s place n v) {x = suc (w - 1)} {y = w} (omega arith)
