-- What writing a field keeps: the length, the bytes' range, the bits outside, and every field apart from it.
use mathlib.Core.Path.{◌≡◌, refl, ◌∙◌}
use mathlib.Core.Logic.{inl, inr, ⊎_elim}
use mathlib.Core.List.{List}
use Prim.Native.Nat.{ℕ, zero, suc, ◌+◌, ◌/◌, ◌%◌, ◌≤◌, ◌<◌}
use native.Mathlib.Omega.{arith}
use Rattle.fields.specs.Bits.{bit, put_bit}
use Rattle.fields.specs.Fields.{field, put_field}
use Rattle.fields.specs.Promises.{LengthKept, BytesKept, OutsideKept, ApartKept}
use Rattle.fields.proofs.Bits.{length-put_bit, bytes-put_bit, other_bit}

pub length_kept : LengthKept
unfolding put_field
length_kept s place zero v = refl
length_kept s place (suc w) v = length_kept (put_bit s (place + w) (v % 2)) place w (v / 2) ∙ length-put_bit s (place + w) (v % 2)

pub bytes_kept : BytesKept
unfolding put_field
bytes_kept s place zero v h = h
bytes_kept s place (suc w) v h = bytes_kept (put_bit s (place + w) (v % 2)) place w (v / 2) (bytes-put_bit s (place + w) (v % 2) (omega arith) h)

-- a bit outside the field
pub outside_kept : OutsideKept
unfolding put_field
outside_kept s place zero v k o = refl
outside_kept s place (suc w) v k o =
    outside_kept (put_bit s (place + w) (v % 2)) place w (v / 2) k (⊎_elim (λ h. inl h) (λ (h : place + suc w ≤ k). inr (omega arith)) o)
    ∙ other_bit s (place + w) k (v % 2) (omega arith) (⊎_elim (λ (h : k < place). omega arith) (λ (h : place + suc w ≤ k). omega arith) o)

-- bytes with the same bits in a field hold the same number there
pub same_field : (s t : List ℕ) (place w : ℕ) → ((k : ℕ) → place ≤ k → k < place + w → bit s k ≡ bit t k) → field s place w ≡ field t place w
unfolding field
same_field s t place zero h = refl
same_field s t place (suc w) h =
    omega (arith, same_field s t place w (λ k a b. h k a (omega arith)), h (place + w) (omega arith) (omega arith))

-- a field that lies wholly before or behind the written one
pub apart_kept : ApartKept
apart_kept s place w v from n o =
    same_field (put_field s place w v) s from n
    (λ k a b. outside_kept s place w v k (⊎_elim (λ (h : from + n ≤ place). inl (omega arith)) (λ (h : place + w ≤ from). inr (omega arith)) o))
