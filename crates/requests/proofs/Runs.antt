-- The requests of a list, one behind the other: each stands there as its field, and the reader counts them.
use mathlib.Core.Path.{◌≡◌, refl, sym, ap, ap₂, ◌∙◌, subst}
use mathlib.Core.List.{List, [], ◌∷◌}
use Prim.Native.Nat.{ℕ, zero, suc, ◌+◌}
use native.Mathlib.Nat.{add-zero}
use native.Mathlib.Omega.{arith}
use lib.ListN.{length}
use Rattle.packed.specs.Parts.{bits_of_parts, Holds}
use Rattle.requests.specs.Lists.{AllSized, part_of, parts_of, combines_in}
use Rattle.requests.specs.Promises.{CountsRight, ReadSized}
use Rattle.requests.specs.Reading.{next_place, count_at, place_of, requests_from, combines_to}
use Rattle.requests.specs.declared.Request.{Request}
use Rattle.requests.specs.Told.{Judged}
use Rattle.requests.proofs.OneField.{stands, read_as}
use Rattle.requests.proofs.Refusals.{list_ruled_exactly, judged_whole}

module _ (s : List ℕ) where
  pub length_from : (place k : ℕ) → length (requests_from s place k) ≡ k
  unfolding requests_from
  length_from place zero = refl
  length_from place (suc k) = ap suc (length_from (next_place s place) k)

  sized_from : (place k : ℕ) → AllSized (requests_from s place k)
  unfolding requests_from
  sized_from place zero = tt
  sized_from place (suc k) = ((stands s place).sized, sized_from (next_place s place) k)

  -- from request j on, up to request n
  pub record Run (j n : ℕ) (rs : List Request) : Type 0 where
    pub stop : place_of s j + bits_of_parts (parts_of rs) ≡ place_of s n
    pub sum : combines_to s j + combines_in rs ≡ combines_to s n
    pub holds : Holds s (place_of s j) (parts_of rs)

  pub run : (j k n : ℕ) → j + k ≡ n → Run j n (requests_from s (place_of s j) k)
  unfolding requests_from place_of combines_to combines_in bits_of_parts
  run j zero n e =
      let d : j ≡ n = omega arith in
      record { stop = add-zero (place_of s j) ∙ ap (place_of s) d; sum = add-zero (combines_to s j) ∙ ap (combines_to s) d; holds = tt }
  run j (suc k) n e =
      let place : ℕ = place_of s j in
      let h = stands s place in
      let r = run (suc j) k n (omega arith) in
      record {
        stop = omega (arith, h.ends_at, r.stop);
        sum = omega (arith, r.sum);
        holds = (h.holds, subst (λ (p : ℕ). Holds s p (parts_of (requests_from s (next_place s place) k))) h.ends_at r.holds);
      }

  -- fields that hold requests are read as those requests
  pub run_back : (place : ℕ) (rs : List Request) → AllSized rs → Holds s place (parts_of rs) → requests_from s place (length rs) ≡ rs
  unfolding requests_from
  run_back place [] h l = refl
  run_back place (r ∷ rs) h l =
      let e = read_as s place r h.0 l.0 in
      let n : next_place s place ≡ place + (part_of r).width = rw e at (stands s place).ends_at in
      ap₂ {A = Request} {B = List Request} (λ x y. x ∷ y) e (ap (λ (p : ℕ). requests_from s p (length rs)) n ∙ run_back (place + (part_of r).width) rs h.1 l.1)

pub read_sized : ReadSized
read_sized s = sized_from s 13 (count_at s)

pub counts_right : CountsRight
unfolding place_of combines_to
counts_right s e =
    let n : ℕ = count_at s in
    let w = judged_whole s ((list_ruled_exactly s 0).0 e) in
    let r = run s 0 n n (omega arith) in (
      ap (λ (j : Judged). j.requests) w ∙ sym (length_from s 13 n),
      ap (λ (j : Judged). j.combines) w ∙ omega (arith, r.sum),
    )
