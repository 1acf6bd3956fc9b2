-- Where a request ends, and the places of a list's requests one behind the other.
use mathlib.Core.Path.{◌≡◌, refl}
use mathlib.Core.List.{List}
use Prim.Native.Nat.{ℕ, zero, suc, ◌+◌, ◌*◌, ◌≤◌}
use native.Mathlib.Decide.{ℕ_discrete}
use native.Mathlib.Omega.{arith}
use borrow.Author.Tests.{eq-eqb, ne_eqb}
use Rattle.fields.specs.Fields.{field}
use Rattle.requests.specs.Reading.{next_place, place_of}

module _ (s : List ℕ) (place : ℕ) where
  pub after_combine_lem : field s place 1 ≡ 0 → next_place s place ≡ place + 9
  unfolding next_place
  after_combine_lem e = rw (eq-eqb (field s place 1) 0 e)

  pub after_write_lem : (field s place 1 ≡ 0 → ⊥) → next_place s place ≡ place + 41
  unfolding next_place
  after_write_lem e = rw (ne_eqb (field s place 1) 0 e)

  pub after_more : (place + 9 ≤ next_place s place) × (next_place s place ≤ place + 41)
  after_more = go (ℕ_discrete (field s place 1) 0)
    where
      go : Dec (field s place 1 ≡ 0) → (place + 9 ≤ next_place s place) × (next_place s place ≤ place + 41)
      go (yes d) = let e = after_combine_lem d in (omega arith, omega arith)
      go (no d) = let e = after_write_lem d in (omega arith, omega arith)

module _ (s : List ℕ) where
  pub place_next : (k : ℕ) → place_of s (suc k) ≡ next_place s (place_of s k)
  unfolding place_of
  place_next k = refl

  pub place_most : (k : ℕ) → place_of s k ≤ 13 + 41 * k
  unfolding place_of
  place_most zero = omega arith
  place_most (suc k) = omega (arith, place_most k, (after_more s (place_of s k)).1)

  -- a later request stands further back
  pub place_up : (j k : ℕ) → j ≤ k → place_of s j ≤ place_of s k
  place_up j zero h = let e : j ≡ 0 = omega arith in rw e (omega arith)
  place_up j (suc k) h = go (ℕ_discrete j (suc k)) (λ l. place_up j k l)
    where
      go : Dec (j ≡ suc k) → (j ≤ k → place_of s j ≤ place_of s k) → place_of s j ≤ place_of s (suc k)
      go (yes d) r = rw d (omega arith)
      go (no d) r = omega (arith, r (omega arith), place_next k, (after_more s (place_of s k)).0)
