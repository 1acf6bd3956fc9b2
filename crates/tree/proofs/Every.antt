-- A test of all places: its turns, as a loop makes them, and what it says of each place.
use mathlib.Core.Path.{◌≡◌, refl, sym, ap, ap₂, ◌∙◌}
use mathlib.Core.Bool.{Bool, true, false, ◌&&◌, and-false, and-eq-true_iff}
use mathlib.Core.Logic.{◌⊎◌, inl, inr}
use Prim.Native.Nat.{ℕ, zero, suc, ◌+◌, ◌<◌, ◌≤◌}
use native.Mathlib.Nat.{not-suc-le-zero}
use native.Mathlib.Numerals.{add-one}
use native.Mathlib.Omega.{arith}
use borrow.Author.Tests.{lt-ltb, le-ltb}
use Rattle.tree.specs.inner.Places.{from, places}
use Rattle.tree.specs.Every.{every}
use Rattle.tree.proofs.Cases.{order, lt_or_le}

module _ (test : ℕ → Bool) where
  pub every_none : every test 0 ≡ true
  unfolding every
  every_none = refl

  pub every_more : (i : ℕ) → every test i ≡ true → test i ≡ true → every test (i + 1) ≡ true
  unfolding every
  every_more i h e = rw add-one (ap₂ ◌&&◌ h e)

  pub every_next : (i : ℕ) → every test (i + 1) ≡ (every test i && test i)
  unfolding every
  every_next i = rw add-one

  pub every_fails : (i n : ℕ) → i < n → test i ≡ false → every test n ≡ false
  unfolding every
  every_fails i zero h e = absurd (not-suc-le-zero h)
  every_fails i (suc n) h e = order i n
      (λ l. ap (λ b. b && test n) (every_fails i n l e))
      (λ q. ap (λ b. every test n && b) (ap test (sym q) ∙ e) ∙ and-false (every test n))
      (λ l. absurd (omega arith))

  pub every_at : (n i : ℕ) → every test n ≡ true → i < n → test i ≡ true
  unfolding every
  every_at zero i e h = absurd (not-suc-le-zero h)
  every_at (suc n) i e h =
      let b = (and-eq-true_iff (every test n) (test n)).0 e in
      order i n (λ l. every_at n i b.0 l) (λ q. ap test q ∙ b.1) (λ l. absurd (omega arith))

  pub every_of : (n : ℕ) → ((i : ℕ) → i < n → test i ≡ true) → every test n ≡ true
  unfolding every
  every_of zero f = refl
  every_of (suc n) f = ap₂ ◌&&◌ (every_of n (λ i l. f i (omega arith))) (f n (omega arith))

  -- ---- from place k on, in a loop that does not stop at what fails

  pub from_more : (k i : ℕ) (g b : Bool) → k ≤ i → g ≡ every (from k test) i → b ≡ test i → (g && b) ≡ every (from k test) (i + 1)
  unfolding every
  from_more k i g b h e f = rw (add-one i, le-ltb i k h) (ap₂ ◌&&◌ e f)

module _ (k : ℕ) (test : ℕ → Bool) where
  pub from_at : (n i : ℕ) → every (from k test) n ≡ true → i < n → k ≤ i → test i ≡ true
  from_at n i e h l = rw (le-ltb i k l) at (every_at (from k test) n i e h)

  pub from_of_lem : (n : ℕ) → ((i : ℕ) → i < n → k ≤ i → test i ≡ true) → every (from k test) n ≡ true
  from_of_lem n f = every_of (from k test) n (λ i h. lt_or_le i k (λ l. rw (lt-ltb i k l)) (λ l. rw (le-ltb i k l) (f i h l)))

  pub from_none : true ≡ every (from k test) k
  from_none = sym (from_of_lem k (λ i h l. absurd (omega arith)))

-- used and unused places
module _ (n : ℕ) (used unused : ℕ → Bool) where
  apart : places n used unused ≡ true → ((every (from 0 unused) 1 ≡ true) × (every (from 1 used) n ≡ true)) × (every (from n unused) 256 ≡ true)
  apart e =
      let p = (and-eq-true_iff (every (from 0 unused) 1 && every (from 1 used) n) (every (from n unused) 256)).0 e in
      ((and-eq-true_iff (every (from 0 unused) 1) (every (from 1 used) n)).0 p.0, p.1)

  pub used_at : places n used unused ≡ true → (i : ℕ) → 0 < i → i < n → used i ≡ true
  used_at e i z h = from_at 1 used n i (apart e).0.1 h z

  pub unused_at : places n used unused ≡ true → (i : ℕ) → i < 256 → (i ≡ 0) ⊎ (n ≤ i) → unused i ≡ true
  unused_at e i h (inl o) = from_at 0 unused 1 i (apart e).0.0 (omega arith) (omega arith)
  unused_at e i h (inr l) = from_at n unused 256 i (apart e).1 h l

  pub places_of : ((i : ℕ) → 0 < i → i < n → used i ≡ true) → ((i : ℕ) → i < 256 → (i ≡ 0) ⊎ (n ≤ i) → unused i ≡ true) → places n used unused ≡ true
  places_of f g =
      ap₂ ◌&&◌
      (ap₂ ◌&&◌ (from_of_lem 0 unused 1 (λ i h l. g i (omega arith) (inl (omega arith)))) (from_of_lem 1 used n (λ i h l. f i l h)))
      (from_of_lem n unused 256 (λ i h l. g i h (inr l)))

-- two tests that hold together are equal
pub same_test : (a b : Bool) → (a ≡ true → b ≡ true) → (b ≡ true → a ≡ true) → a ≡ b
same_test true b f g = sym (f refl)
same_test false true f g = g refl
same_test false false f g = refl
