-- The reader refuses a list exactly as the format says, and answers zeros where it refuses.
use mathlib.Core.Path.{◌≡◌, refl, ◌∙◌}
use mathlib.Core.Bool.{Bool, true, false}
use mathlib.Core.List.{List}
use Prim.Native.Nat.{ℕ, zero, suc, ◌*◌, ◌≤◌, ◌<◌}
use native.Mathlib.Decide.{dec_le}
use native.Mathlib.Omega.{arith}
use lib.ListN.{length}
use borrow.Author.Tests.{le-leb, lt-leb}
use Rattle.fields.specs.Fields.{field}
use Rattle.fields.specs.Usable.{usable_bits}
use Rattle.fields.proofs.Verdicts.{verdict_exactly}
use Rattle.packed.specs.Parts.{bytes_for, left, ends}
use Rattle.packed.proofs.Filling.{ends_exactly, left_over_exactly}
use Rattle.requests.specs.Format.{Counted, Ruled, no_count, bad_count, no_request, left_over, whole}
use Rattle.requests.specs.Promises.{ListRuledExactly, ListRefusedWithZeros}
use Rattle.requests.specs.Reading.{count_at, place_of, combines_to, end_fault, refusal_of, refused, verdict, judged_of}
use Rattle.requests.proofs.Places.{place_most, place_up}

module _ (s : List ℕ) where
  -- ---- the reader's number is the format's

  module _ (n : ℕ) (g : Counted s n) where
    -- requests whose count is in rule lie in the usable bytes, if the list has the bytes
    pub usable : place_of s n ≤ 8 * length s → place_of s n ≤ usable_bits (length s)
    usable h = omega (arith, place_most s n, g.few)

    -- behind a count in rule, where the requests end decides
    rest : refusal_of s ≡ end_fault s (place_of s n)
    unfolding refusal_of
    rest = rw (le-leb 13 (8 * length s) g.there, ← g.count, le-leb n 4096 g.few)

  pub ruled_once : {r : ℕ} → Ruled s r → refusal_of s ≡ r
  ruled_once (no_count h) = unfold refusal_of in rw (lt-leb 13 (8 * length s) h)
  ruled_once (bad_count h m) = unfold refusal_of in rw (le-leb 13 (8 * length s) h, lt-leb (count_at s) 4096 m)
  ruled_once (no_request n k g l h o) = rest n g ∙ rw (lt-leb (place_of s n) (8 * length s) (omega (arith, place_up s (suc k) n (omega arith))))
  ruled_once (left_over n g h o) = rest n g ∙ rw (le-leb (place_of s n) (8 * length s) h, (left_over_exactly s (place_of s n) (usable n g h)).1 o)
  ruled_once (whole n g b f) =
      let h : place_of s n ≤ 8 * length s = omega arith in
      rest n g ∙ rw (le-leb (place_of s n) (8 * length s) h, (ends_exactly s (place_of s n)).1 (usable n g h, b, f))

  -- ---- and every list has one

  -- the first of n requests that ends past the end
  record FirstCut (n : ℕ) : Type 0 where
    request : ℕ
    asked : request < n
    begins : place_of s request ≤ 8 * length s
    past : 8 * length s < place_of s (suc request)

  first_cut : (n : ℕ) → 13 ≤ 8 * length s → 8 * length s < place_of s n → FirstCut n
  unfolding place_of
  first_cut zero h o = absurd (omega arith)
  first_cut (suc n) h o = go (dec_le (place_of s n) (8 * length s)) (first_cut n h)
    where
      go : Dec (place_of s n ≤ 8 * length s) → (8 * length s < place_of s n → FirstCut n) → FirstCut (suc n)
      go (yes d) r = record { request = n; asked = omega arith; begins = d; past = o }
      go (no d) r = let c = r (omega arith) in record { request = c.request; asked = omega (arith, c.asked); begins = c.begins; past = c.past }

  of_end : (n : ℕ) → Counted s n → (b : Bool) → place_of s n ≤ 8 * length s → ends s (place_of s n) ≡ b → (r : ℕ) × Ruled s r
  of_end n g true h e = let f = (ends_exactly s (place_of s n)).0 e in (0, whole n g f.1 f.2)
  of_end n g false h e = (4, left_over n g h ((left_over_exactly s (place_of s n) (usable n g h)).0 e))

  of_count : (n : ℕ) → Counted s n → (r : ℕ) × Ruled s r
  of_count n g = go (dec_le (place_of s n) (8 * length s))
    where
      go : Dec (place_of s n ≤ 8 * length s) → (r : ℕ) × Ruled s r
      go (yes d) = of_end n g (ends s (place_of s n)) d refl
      go (no d) = let c = first_cut n g.there (omega arith) in (1, no_request n c.request g c.asked c.begins c.past)

  has_rule : (r : ℕ) × Ruled s r
  has_rule = go (dec_le 13 (8 * length s)) (dec_le (count_at s) 4096)
    where
      go : Dec (13 ≤ 8 * length s) → Dec (count_at s ≤ 4096) → (r : ℕ) × Ruled s r
      go (yes h) (yes m) = of_count (count_at s) (record { there = h; count = refl; few = m })
      go (yes h) (no m) = (5, bad_count h (omega arith))
      go (no h) m = (1, no_count (omega arith))

  -- ---- what is answered

  answered : (judged_of s).refusal ≡ refusal_of s
  unfolding judged_of
  answered = go (refusal_of s)
    where
      go : (r : ℕ) → (verdict r (count_at s) (combines_to s (count_at s))).refusal ≡ r
      go zero = refl
      go (suc r) = refl

  pub judged_refused : {r : ℕ} → Ruled s (suc r) → judged_of s ≡ refused (suc r)
  unfolding judged_of
  judged_refused h = rw (ruled_once h)

  pub judged_whole : Ruled s 0 → judged_of s ≡ verdict 0 (count_at s) (combines_to s (count_at s))
  unfolding judged_of
  judged_whole h = rw (ruled_once h)

pub list_ruled_exactly : ListRuledExactly
list_ruled_exactly s = verdict_exactly (Ruled s) (judged_of s).refusal (λ r h. answered s ∙ ruled_once s h) (has_rule s)

-- a list that is not refused has a count in rule, no byte more than its requests take, and no filling bit set
pub accepted : (s : List ℕ) → Ruled s 0 → Counted s (count_at s) × (length s ≡ bytes_for (place_of s (count_at s))) × (field s (place_of s (count_at s)) (left (place_of s (count_at s))) ≡ 0)
accepted s (whole n g b f) = rw (← g.count) (g, b, f)

pub list_refused_with_zeros : ListRefusedWithZeros
unfolding judged_of
list_refused_with_zeros s h = go (refusal_of s) h
  where
    go : (r : ℕ) → 0 < (verdict r (count_at s) (combines_to s (count_at s))).refusal → verdict r (count_at s) (combines_to s (count_at s)) ≡ refused (verdict r (count_at s) (combines_to s (count_at s))).refusal
    go zero l = absurd (omega arith)
    go (suc r) l = refl
