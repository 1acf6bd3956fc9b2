-- Being below a node, one step at a time.
use mathlib.Core.Path.{◌≡◌, refl, ap}
use mathlib.Core.Bool.{true, false, ◌||◌}
use mathlib.Core.List.{List}
use mathlib.Core.Logic.{◌≢◌}
use Prim.Native.Nat.{ℕ, zero, suc, ◌<◌, ◌≤◌}
use native.Mathlib.Nat.{not-suc-le-zero, le_refl}
use native.Mathlib.Omega.{arith}
use lib.Dec.{eqb}
use borrow.Author.Tests.{eq-eqb, ne_eqb}
use Rattle.tree.specs.Parents.{parent, Grown}
use Rattle.tree.specs.Sides.{climb, below}

pub below_self : (ps : List ℕ) (i : ℕ) → below ps i i ≡ true
unfolding below climb
below_self ps zero = refl
below_self ps (suc i) = rw (eq-eqb (suc i) (suc i) refl)

pub below_root : (ps : List ℕ) (i : ℕ) → below ps i 0 ≡ eqb 0 i
unfolding below climb
below_root ps i = refl

-- the turns of a climb, in any list of parents
module _ (ps : List ℕ) (i : ℕ) where
  pub climb_ends : (k j : ℕ) → k ≡ 0 → climb ps i k j ≡ eqb j i
  unfolding climb
  climb_ends k j e = rw e

  pub climb_root : (k : ℕ) → climb ps i k 0 ≡ eqb 0 i
  unfolding climb
  climb_root zero = refl
  climb_root (suc k) = refl

  pub climb_meets : (k j : ℕ) → j ≡ i → climb ps i k j ≡ true
  unfolding climb
  climb_meets zero j e = eq-eqb j i e
  climb_meets (suc k) zero e = eq-eqb zero i e
  climb_meets (suc k) (suc j) e = rw (eq-eqb (suc j) i e)

  pub climb_on : (m p k j : ℕ) → p ≡ parent ps j → k ≡ suc m → 0 < j → j ≢ i → climb ps i m p ≡ climb ps i k j
  unfolding climb
  climb_on m p k zero e f h d = absurd (not-suc-le-zero h)
  climb_on m p k (suc j) e f h d = rw (e, f, ne_eqb (suc j) i d)

pub ruleset climb_turns = (climb_ends, climb_root, climb_meets, climb_on)

module _ (ps : List ℕ) (n : ℕ) (grown : Grown ps n) where
  -- more steps than the node's number find nothing more
  enough : (i k m j : ℕ) → j ≤ k → j ≤ m → j < n → climb ps i k j ≡ climb ps i m j
  unfolding climb
  enough i zero zero j a b h = refl
  enough i zero (suc m) zero a b h = refl
  enough i zero (suc m) (suc j) a b h = absurd (not-suc-le-zero a)
  enough i (suc k) zero zero a b h = refl
  enough i (suc k) zero (suc j) a b h = absurd (not-suc-le-zero b)
  enough i (suc k) (suc m) zero a b h = refl
  enough i (suc k) (suc m) (suc j) a b h =
      let t = grown (suc j) (omega arith) h in
      ap (λ r. eqb (suc j) i || r) (enough i k m (parent ps (suc j)) (omega arith) (omega arith) (omega arith))

  pub below_step : (i j : ℕ) → 0 < j → j < n → below ps i j ≡ (eqb j i || below ps i (parent ps j))
  unfolding below climb
  below_step i zero z h = absurd (not-suc-le-zero z)
  below_step i (suc j) z h =
      let t = grown (suc j) z h in
      ap (λ r. eqb (suc j) i || r) (enough i j (parent ps (suc j)) (parent ps (suc j)) (omega arith) (omega arith) (omega arith))

  -- what a parent hands on to its children, all nodes have
  descends : (P : ℕ → Type 0) → ((j : ℕ) → j < n → (0 < j → P (parent ps j)) → P j) → (k j : ℕ) → j ≤ k → j < n → P j
  descends P s zero j a h = s j h (λ z. absurd (omega arith))
  descends P s (suc k) j a h = s j h (λ z. let t = grown j z h in descends P s k (parent ps j) (omega arith) (omega arith))

  pub inherited : (P : ℕ → Type 0) → ((j : ℕ) → j < n → (0 < j → P (parent ps j)) → P j) → (j : ℕ) → j < n → P j
  inherited P s j = descends P s j j (le_refl j)

  pub below_lt : (i j : ℕ) → j < n → j < i → below ps i j ≡ false
  below_lt i = inherited (λ j. j < i → below ps i j ≡ false) step
    where
      step : (j : ℕ) → j < n → (0 < j → parent ps j < i → below ps i (parent ps j) ≡ false) → j < i → below ps i j ≡ false
      step zero h r l = rw (below_root ps i) (ne_eqb zero i (omega arith))
      step (suc j) h r l =
          let z : 0 < suc j = omega arith in
          rw (below_step i (suc j) z h, ne_eqb (suc j) i (omega arith)) (r z (omega (arith, grown (suc j) z h)))
