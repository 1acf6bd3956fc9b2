-- Bytes hold packed parts exactly where they are those that packing writes.
use mathlib.Core.Path.{◌≡◌, refl, sym, ap, ◌∙◌}
use mathlib.Core.Logic.{◌⊎◌, inl, inr, ⊎_elim}
use mathlib.Core.List.{List, [], ◌∷◌, ◌++◌}
use Prim.Native.Nat.{ℕ, zero, suc, ◌+◌, ◌*◌, ◌/◌, ◌%◌, ◌≤◌, ◌<◌}
use native.Mathlib.Decide.{dec_lt}
use native.Mathlib.Omega.{arith}
use lib.ListN.{length, get_or, replicate, length-replicate, get_or-append}
use lib.Seq.{set-append_left}
use Rattle.fields.specs.Bits.{Bytes, weight, patch, bit, put_bit}
use Rattle.fields.specs.Fields.{field, put_field}
use Rattle.fields.proofs.Bits.{length-put_bit}
use Rattle.fields.proofs.Kept.{length_kept, bytes_kept, apart_kept}
use Rattle.fields.proofs.ReadBack.{read_back}
use Rattle.fields.proofs.SameBits.{field_bits, same_bits}
use Rattle.packed.specs.Parts.{Part, Fit, bits_of_parts, bytes_for, left, put_all, packed, Holds, Packs}
use Rattle.packed.specs.Promises.{ExactlyPacked, PackedBytes, RestKept}
use Rattle.packed.proofs.Zeros.{zeros_at, zeros_field, past_zero}

-- ---- what writing the parts keeps

pub length-put_all : (s : List ℕ) (place : ℕ) (ps : List Part) → length (put_all s place ps) ≡ length s
unfolding put_all
length-put_all s place [] = refl
length-put_all s place (p ∷ ps) = length-put_all (put_field s place p.width p.number) (place + p.width) ps ∙ length_kept s place p.width p.number

bytes-put_all : (s : List ℕ) (place : ℕ) (ps : List Part) → Bytes s → Bytes (put_all s place ps)
unfolding put_all
bytes-put_all s place [] h = h
bytes-put_all s place (p ∷ ps) h = bytes-put_all (put_field s place p.width p.number) (place + p.width) ps (bytes_kept s place p.width p.number h)

apart-put_all : (s : List ℕ) (place : ℕ) (ps : List Part) (from w : ℕ) → (from + w ≤ place) ⊎ (place + bits_of_parts ps ≤ from) → field (put_all s place ps) from w ≡ field s from w
unfolding put_all bits_of_parts
apart-put_all s place [] from w o = refl
apart-put_all s place (p ∷ ps) from w o =
    apart-put_all (put_field s place p.width p.number) (place + p.width) ps from w
    (⊎_elim (λ (h : from + w ≤ place). inl (omega arith)) (λ (h : place + (p.width + bits_of_parts ps) ≤ from). inr (omega arith)) o)
    ∙ apart_kept s place p.width p.number from w (⊎_elim (λ h. inl h) (λ (h : place + (p.width + bits_of_parts ps) ≤ from). inr (omega arith)) o)

-- ---- what is put into the front of a list leaves the rest

front_bit : (a b : List ℕ) (k v : ℕ) → k < 8 * length a → put_bit (a ++ b) k v ≡ put_bit a k v ++ b
unfolding put_bit
front_bit a b k v h =
    rw (get_or-append a b 0 (k / 8) (omega arith)) (set-append_left a b (k / 8) (patch (get_or a (k / 8) 0) (weight k) v) (omega arith))

pub front_field : (a b : List ℕ) (place w v : ℕ) → place + w ≤ 8 * length a → put_field (a ++ b) place w v ≡ put_field a place w v ++ b
unfolding put_field
front_field a b place zero v h = refl
front_field a b place (suc w) v h =
    ap (λ (l : List ℕ). put_field l place w (v / 2)) (front_bit a b (place + w) (v % 2) (omega arith))
    ∙ front_field (put_bit a (place + w) (v % 2)) b place w (v / 2) (omega (arith, length-put_bit a (place + w) (v % 2)))

pub rest_kept : RestKept
unfolding put_all bits_of_parts
rest_kept a b place [] h = refl
rest_kept a b place (p ∷ ps) h =
    ap (λ (l : List ℕ). put_all l (place + p.width) ps) (front_field a b place p.width p.number (omega arith))
    ∙ rest_kept (put_field a place p.width p.number) b (place + p.width) ps (omega (arith, length_kept a place p.width p.number))

-- ---- the parts are there once they are written

put_holds : (s : List ℕ) (place : ℕ) (ps : List Part) → Fit ps → place + bits_of_parts ps ≤ 8 * length s → Holds (put_all s place ps) place ps
unfolding put_all bits_of_parts
put_holds s place [] h l = tt
put_holds s place (p ∷ ps) h l = (
  apart-put_all (put_field s place p.width p.number) (place + p.width) ps place p.width (inl (omega arith))
      ∙ read_back s place p.width p.number h.0 (omega arith),
  put_holds (put_field s place p.width p.number) (place + p.width) ps h.1 (omega (arith, length_kept s place p.width p.number)),
)

pub packs_packed : (ps : List Part) → Fit ps → Packs (packed ps) ps
packs_packed ps h =
    let z : List ℕ = replicate (bytes_for (bits_of_parts ps)) 0 in
    let l : length z ≡ bytes_for (bits_of_parts ps) = length-replicate {A = ℕ} (bytes_for (bits_of_parts ps)) 0 in
    record {
      bytes = length-put_all z 0 ps ∙ l;
      parts = put_holds z 0 ps h (omega arith);
      filling = apart-put_all z 0 ps (bits_of_parts ps) (left (bits_of_parts ps)) (inr (omega arith)) ∙ zeros_field (bytes_for (bits_of_parts ps)) (bits_of_parts ps) (left (bits_of_parts ps));
    }

pub packed_bytes : PackedBytes
packed_bytes ps = bytes-put_all (replicate (bytes_for (bits_of_parts ps)) 0) 0 ps (λ i. rw (zeros_at (bytes_for (bits_of_parts ps)) i) (omega arith))

-- ---- and no other bytes hold them

same_parts : (s t : List ℕ) (place : ℕ) (ps : List Part) → Holds s place ps → Holds t place ps → (k : ℕ) → place ≤ k → k < place + bits_of_parts ps → bit s k ≡ bit t k
unfolding bits_of_parts
same_parts s t place [] h g k a b = absurd (none k a b)
  where
    none : (k : ℕ) → place ≤ k → k < place + 0 → ⊥
    none k a b = omega arith
same_parts s t place (p ∷ ps) h g k a b =
    go (dec_lt k (place + p.width)) (λ l. same_parts s t (place + p.width) ps h.1 g.1 k l (omega arith))
  where
    go : Dec (k < place + p.width) → (place + p.width ≤ k → bit s k ≡ bit t k) → bit s k ≡ bit t k
    go (yes d) r = field_bits s t place p.width (h.0 ∙ sym g.0) k a d
    go (no d) r = r (omega arith)

only_one_packing : (s t : List ℕ) (ps : List Part) → Bytes s → Bytes t → Packs s ps → Packs t ps → s ≡ t
only_one_packing s t ps b c h g =
    same_bits s t (h.bytes ∙ sym g.bytes) b c (λ k. go k (dec_lt k (bits_of_parts ps)) (dec_lt k (8 * bytes_for (bits_of_parts ps))))
  where
    go : (k : ℕ) → Dec (k < bits_of_parts ps) → Dec (k < 8 * bytes_for (bits_of_parts ps)) → bit s k ≡ bit t k
    go k (yes d) f = same_parts s t 0 ps h.parts g.parts k (omega arith) (omega arith)
    go k (no d) (yes f) = field_bits s t (bits_of_parts ps) (left (bits_of_parts ps)) (h.filling ∙ sym g.filling) k (omega arith) (omega arith)
    go k (no d) (no f) = past_zero s k (omega (arith, h.bytes)) ∙ sym (past_zero t k (omega (arith, g.bytes)))

pub exactly_packed : ExactlyPacked
exactly_packed s ps b h = (
  λ p. only_one_packing s (packed ps) ps b (packed_bytes ps) p (packs_packed ps h),
  λ e. rw e (packs_packed ps h),
)
