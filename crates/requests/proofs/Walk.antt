-- A list, read from its count to its end: what each step of the reader says of the whole.
use mathlib.Core.Path.{◌≡◌, refl, sym, ap, ◌∙◌}
use mathlib.Core.Bool.{true, false}
use mathlib.Core.List.{List}
use Prim.Native.Nat.{ℕ, zero, suc, ◌+◌, ◌*◌, ◌≤◌, ◌<◌}
use native.Mathlib.Numerals.{add-one}
use native.Mathlib.Omega.{arith}
use lib.ListN.{length}
use Rattle.fields.specs.Usable.{field_at}
use Rattle.fields.proofs.Rooms.{first_found, first_cut_off}
use Rattle.packed.specs.Parts.{ends}
use Rattle.packed.proofs.Filling.{ends_exactly, left_over_exactly}
use Rattle.requests.specs.Lists.{one_if_combine}
use Rattle.requests.specs.Format.{Counted, no_count, bad_count, no_request, left_over, whole}
use Rattle.requests.specs.Reading.{request_at, next_place, item_at, told, place_of, combines_to, refused, judged_of}
use Rattle.requests.specs.declared.Request.{Request}
use Rattle.requests.specs.declared.Request.TheVariants.{Combine, Write}
use Rattle.std.specs.Prelude.{Ok, Err}
use Rattle.refusal.specs.Numbers.{number}
use Rattle.refusal.specs.declared.Refusal.{Refusal}
use Rattle.requests.proofs.Places.{place_next, place_most}
use Rattle.requests.proofs.Items.{item_exactly, cut_item}
use Rattle.requests.proofs.Refusals.{usable, judged_refused, judged_whole}

-- ---- the count

module _ (s : List ℕ) where
  pub count_cut : (r : Refusal) → field_at s 0 13 ≡ Err r → judged_of s ≡ refused (number r)
  count_cut r e =
      let c = first_cut_off s 13 (omega arith) r e in
      rw c.0 (judged_refused s (no_count c.1))

  module _ (n : ℕ) (f : field_at s 0 13 ≡ Ok n) where
    pub count_many : 4096 < n → judged_of s ≡ refused 5
    count_many h = let c = first_found s 13 n f in judged_refused s (bad_count c.0 (rw c.1 at h))

    pub counted : n ≤ 4096 → Counted s n
    counted h = let c = first_found s 13 n f in record { there = c.0; count = c.1; few = h }

-- ---- the requests

pub one_at_most : (r : Request) → one_if_combine r ≤ 1
one_at_most (Combine node) = omega arith
one_at_most (Write node value) = omega arith

combines_most : (s : List ℕ) (k : ℕ) → combines_to s k ≤ k
unfolding combines_to
combines_most s zero = omega arith
combines_most s (suc k) = omega (arith, combines_most s k, one_at_most (request_at s (place_of s k)))

-- k of n requests are read, the next one stands at place, and so many of them are combines
pub record Went (s : List ℕ) (n place combines k : ℕ) : Type 0 where
  pub turns : k ≤ n
  pub here : place ≡ place_of s k
  pub inside : place ≤ 8 * length s
  pub sum : combines ≡ combines_to s k

module _ (s : List ℕ) (n : ℕ) (g : Counted s n) where
  pub went_none : Went s n 13 0 0
  unfolding place_of combines_to
  went_none = record { turns = omega arith; here = refl; inside = g.there; sum = refl }

  module _ (place combines k : ℕ) (w : Went s n place combines k) where
    pub went_few : combines ≤ 4096
    went_few = omega (arith, w.sum, w.turns, g.few, combines_most s k)

    next_place_lem : next_place s place ≡ place_of s (suc k)
    next_place_lem = ap (next_place s) w.here ∙ sym (place_next s k)

    module _ (l : k < n) where
      pub went_on : (r : Request) (next more : ℕ) → item_at s place ≡ Ok (r, next) → more ≡ combines + one_if_combine r → Went s n next more (k + 1)
      went_on r next more e m =
          let f = (item_exactly s place next r).0 (ap told e) in
          rw (add-one k) (record { turns = omega arith; here = f.2 ∙ next_place_lem; inside = omega (arith, f.0, f.2); sum = m ∙ combines_next f.1 })
        where
          combines_next : r ≡ request_at s place → combines + one_if_combine r ≡ combines_to s (suc k)
          combines_next e = unfold combines_to in rw (e, w.sum, w.here)

      pub went_short : (r : Refusal) → item_at s place ≡ Err r → judged_of s ≡ refused (number r)
      went_short r e =
          let c = cut_item s place r e in
          rw c.0 (judged_refused s (no_request n k g l (omega (arith, w.here, w.inside)) (omega (arith, c.1, next_place_lem, place_most s (suc k), g.few))))

    -- all are read, and the end is looked for at that place
    module _ (l : n ≤ k) (end : ℕ) (here : end ≡ place) where
      all_read : k ≡ n
      all_read = omega (arith, w.turns)

      last : end ≡ place_of s n
      last = here ∙ w.here ∙ ap (place_of s) all_read

      at_end : place_of s n ≤ 8 * length s
      at_end = omega (arith, last, w.inside)

      pub went_left_over : ends s end ≡ false → judged_of s ≡ refused 4
      went_left_over e = judged_refused s (left_over n g at_end ((left_over_exactly s (place_of s n) (usable s n g at_end)).0 (ap (ends s) (sym last) ∙ e)))

      pub went_whole : ends s end ≡ true → judged_of s ≡ record { refusal = 0; requests = n; combines = combines; first = 13 }
      went_whole e =
          let f = (ends_exactly s (place_of s n)).0 (ap (ends s) (sym last) ∙ e) in
          judged_whole s (whole n g f.1 f.2) ∙ rw (← g.count, w.sum, all_read)
