-- The bits say all: bytes with the same bits are equal, and only one byte list holds a written number and is otherwise as before.
use mathlib.Core.Path.{◌≡◌, sym, ◌∙◌}
use mathlib.Core.Logic.{◌⊎◌, inl, inr}
use mathlib.Core.List.{List}
use Prim.Native.Nat.{ℕ, zero, suc, ◌+◌, ◌-◌, ◌*◌, ◌/◌, ◌%◌, ◌^◌, ◌≤◌, ◌<◌}
use native.Mathlib.Decide.{ℕ_discrete, dec_lt}
use native.Mathlib.Omega.{arith}
use lib.ListN.{get_or}
use lib.Seq.{ext_get_or}
use Rattle.fields.specs.Bits.{weight, digit, bit}
use Rattle.fields.specs.Fields.{field, put_field}
use Rattle.fields.specs.Promises.{SameBits, OnlyOne}
use Rattle.fields.proofs.Digits.{same_digits}
use Rattle.fields.proofs.Bits.{bit_lt}
use Rattle.fields.proofs.Kept.{length_kept, bytes_kept, outside_kept}
use Rattle.fields.proofs.ReadBack.{read_back}

pub same_bits : SameBits
unfolding bit weight
same_bits s t e hs ht h =
    ext_get_or 0 s t e (λ i l. same_digits 8 (get_or s i 0) (get_or t i 0) (hs i) (ht i) (λ p m. at i p m))
  where
    at : (i p : ℕ) → p < 8 → digit (get_or s i 0) (2 ^ p) ≡ digit (get_or t i 0) (2 ^ p)
    at i p m =
        let a : (i * 8 + (7 - p)) / 8 ≡ i = omega arith in
        let b : 7 - (i * 8 + (7 - p)) % 8 ≡ p = omega arith in
        rw (b, a) at (h (i * 8 + (7 - p)))

-- a field's number tells its bits
pub field_bits : (s t : List ℕ) (place w : ℕ) → field s place w ≡ field t place w → (k : ℕ) → place ≤ k → k < place + w → bit s k ≡ bit t k
unfolding field
field_bits s t place zero e k a b = absurd (empty place k a b)
  where
    empty : (place k : ℕ) → place ≤ k → k < place + 0 → ⊥
    empty place k a b = omega arith
field_bits s t place (suc w) e k a b = go (ℕ_discrete k (place + w)) (λ l. field_bits s t place w (omega (arith, p, q)) k a l)
  where
    p : bit s (place + w) < 2
    p = bit_lt s (place + w)

    q : bit t (place + w) < 2
    q = bit_lt t (place + w)

    go : Dec (k ≡ place + w) → (k < place + w → bit s k ≡ bit t k) → bit s k ≡ bit t k
    go (yes d) r = rw d (omega (arith, p, q))
    go (no d) r = r (omega arith)

pub only_one : OnlyOne
only_one s t place w v hs ht e l hv f o =
    same_bits t (put_field s place w v) (e ∙ sym (length_kept s place w v)) ht (bytes_kept s place w v hs) (λ k. go k (dec_lt k place) (dec_lt k (place + w)))
  where
    off : (k : ℕ) → (k < place) ⊎ (place + w ≤ k) → bit t k ≡ bit (put_field s place w v) k
    off k h = o k h ∙ sym (outside_kept s place w v k h)

    go : (k : ℕ) → Dec (k < place) → Dec (k < place + w) → bit t k ≡ bit (put_field s place w v) k
    go k (yes a) d = off k (inl a)
    go k (no a) (yes b) = field_bits t (put_field s place w v) place w (f ∙ sym (read_back s place w v hv l)) k (omega arith) b
    go k (no a) (no b) = off k (inr (omega arith))
