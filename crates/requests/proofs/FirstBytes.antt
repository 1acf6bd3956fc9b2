-- Bytes that are more than any list has are refused as their first 20,995.
use mathlib.Core.Path.{◌≡◌, refl, sym, ◌∙◌}
use mathlib.Core.List.{List}
use mathlib.Core.Logic.{inl}
use Prim.Native.Nat.{ℕ, zero, suc, ◌≤◌}
use native.Mathlib.Omega.{arith}
use lib.ListN.{length}
use Rattle.fields.proofs.FirstBytes.{first_decide}
use Rattle.requests.specs.Format.{Ruled, no_count, bad_count, no_request, left_over, whole}
use Rattle.requests.specs.Promises.{ListFirstBytes}
use Rattle.requests.specs.Reading.{count_at, place_of, judged_of}
use Rattle.requests.proofs.Places.{place_most}
use Rattle.requests.proofs.Refusals.{list_ruled_exactly, judged_refused}

-- up to 4,096 requests end in the first 20,994 bytes
place_few : (s : List ℕ) (k : ℕ) → k ≤ 4096 → place_of s k ≤ 167949
place_few s k h = omega (arith, place_most s k)

-- two byte lists that are longer, and have the same count, have the same fault
module _ (s t : List ℕ) (ls : 20995 ≤ length s) (lt : 20995 ≤ length t) (same : count_at t ≡ count_at s) where
  -- they are not whole: that would be 20,994 bytes at most
  not_whole : Ruled s 0 → ⊥
  not_whole (whole n g b f) = omega (arith, ls, b, place_few s n g.few)

  same_fault : {r : ℕ} → Ruled s (suc r) → Ruled t (suc r)
  same_fault (no_count h) = absurd (omega (arith, ls))
  same_fault (bad_count h m) = bad_count (omega (arith, lt)) (rw same m)
  same_fault (no_request n k g l h o) = absurd (omega (arith, ls, place_few s (suc k) (omega (arith, g.few))))
  same_fault (left_over n g h o) =
      let m = place_few t n g.few in
      left_over n (record { there = omega (arith, lt); count = g.count ∙ sym same; few = g.few }) (omega (arith, lt, m)) (inl (omega (arith, lt, m)))

  same_judged : (r : ℕ) → Ruled s r → judged_of t ≡ judged_of s
  same_judged zero j = absurd (not_whole j)
  same_judged (suc r) j = judged_refused t (same_fault j) ∙ sym (judged_refused s j)

pub list_first_bytes : ListFirstBytes
list_first_bytes = first_decide judged_of 20995 (λ s t ls lt same. let r : ℕ = (judged_of s).refusal in same_judged s t ls lt (same 0 13 (omega arith)) r ((list_ruled_exactly s r).0 refl))
