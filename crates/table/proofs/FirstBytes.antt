-- Bytes that are more than any table has are refused as their first 226.
use mathlib.Core.Path.{◌≡◌, refl, sym, ◌∙◌}
use mathlib.Core.List.{List}
use mathlib.Core.Logic.{inl}
use Prim.Native.Nat.{ℕ, zero, suc, ◌+◌, ◌-◌, ◌*◌, ◌≤◌, ◌<◌}
use native.Mathlib.Omega.{arith}
use lib.ListN.{length}
use Rattle.fields.specs.Fields.{field}
use Rattle.fields.proofs.FirstBytes.{first_decide}
use Rattle.table.specs.Layout.{parent_place, long, count_at, parent_at}
use Rattle.table.specs.Format.{Counted, GoodParents, Ruled, no_count, bad_count, no_parent, bad_parent, left_over, whole}
use Rattle.table.specs.Reading.{reading_of}
use Rattle.table.specs.Promises.{TableFirstBytes}
use Rattle.table.proofs.Widths.{place_suc, place_last, place_up}
use Rattle.table.proofs.Verdicts.{table_ruled_exactly, reading_refused}

-- the fields of up to 256 nodes end in the first 225 bytes
place_few : (k : ℕ) → k ≤ 255 → parent_place k ≤ 1794
place_few k h = omega (arith, place_up k 255 h, place_last)

-- two byte lists that are longer, and have the same fields in their first 226 bytes, have the same fault
module _ (s t : List ℕ) (ls : 226 ≤ length s) (lt : 226 ≤ length t) (same : (from w : ℕ) → from + w ≤ 8 * 226 → field t from w ≡ field s from w) where
  same_count : count_at t ≡ count_at s
  same_count = same 0 9 (omega arith)

  same_parent : (k : ℕ) → k < 255 → parent_at t k ≡ parent_at s k
  same_parent k h = same (parent_place k) (long k) (omega (arith, place_suc k, place_few (suc k) h))

  counted : (n : ℕ) → Counted s n → Counted t n
  counted n c = record { there = omega (arith, lt); count = c.count ∙ sym same_count; some = c.some; few = c.few }

  right : (k : ℕ) → k ≤ 255 → GoodParents s k → GoodParents t k
  right k h f j l = record { there = omega (arith, lt, place_few (suc j) (omega arith)); smaller = rw (same_parent j (omega arith)) (f j l).smaller }

  -- they are not whole: that would be 225 bytes at most
  not_whole : Ruled s 0 → ⊥
  not_whole (whole n c f b z) = omega (arith, ls, b, place_few (n - 1) (omega (arith, c.few)))

  same_fault : {r : ℕ} → Ruled s (suc r) → Ruled t (suc r)
  same_fault (no_count h) = absurd (omega (arith, ls))
  same_fault (bad_count h o) = bad_count (omega (arith, lt)) (rw same_count o)
  same_fault (no_parent n k c f l h) = absurd (omega (arith, ls, place_few (suc k) (omega (arith, c.few))))
  same_fault (bad_parent n k c f l h w) =
      let m : suc k ≤ 255 = omega (arith, c.few) in
      bad_parent n k (counted n c) (right k (omega arith) f) l (omega (arith, lt, place_few (suc k) m)) (rw (same_parent k m) w)
  same_fault (left_over n c f o) =
      let m : n - 1 ≤ 255 = omega (arith, c.few) in
      left_over n (counted n c) (right (n - 1) m f) (inl (omega (arith, lt, place_few (n - 1) m)))

  same_reading : (r : ℕ) → Ruled s r → reading_of t ≡ reading_of s
  same_reading zero j = absurd (not_whole j)
  same_reading (suc r) j = reading_refused t r (same_fault j) ∙ sym (reading_refused s r j)

pub table_first_bytes : TableFirstBytes
table_first_bytes = first_decide reading_of 226 (λ s t ls lt same. let r : ℕ = (reading_of s).refusal in same_reading s t ls lt same r ((table_ruled_exactly s r).0 refl))
