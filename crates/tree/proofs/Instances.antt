-- What the laws of walks and leaves ask can be met: by document 01's star and path.
use mathlib.Core.Path.{◌≡◌, refl}
use mathlib.Core.Bool.{Bool, true, false, ◌&&◌}
use mathlib.Core.Logic.{◌≢◌}
use mathlib.Core.List.{List, [], ◌∷◌}
use Prim.Native.Nat.{ℕ, zero, suc, ◌<◌}
use native.Mathlib.Omega.{arith}
use lib.Dec.{eqb}
use Rattle.tree.specs.Parents.{parent, Grown}
use Rattle.tree.specs.Sides.{adjacent, points_to}
use Rattle.tree.specs.Kept.{when, keep_if, kept}
use Rattle.tree.specs.inner.Tours.{tour, OfItsPair}
use Rattle.tree.specs.Leaves.{Joins, Goes, new_number, old_number}
use Rattle.tree.proofs.Tours.{visited_once}
use Rattle.tree.proofs.Examples.{star, path}

star_grown : Grown star 4
star_grown zero z h = absurd (omega arith)
star_grown (suc zero) z h = omega arith
star_grown (suc (suc zero)) z h = omega arith
star_grown (suc (suc (suc zero))) z h = omega arith
star_grown (suc (suc (suc (suc i)))) z h = absurd (omega arith)

names : ℕ → ℕ → ℕ × ℕ → Bool
names a b m = eqb a m.0 && eqb b m.1

of_pair : OfItsPair star 4 names (λ w u. (w, u) ∷ [])
unfolding kept names
of_pair a b w u hw hu c = one (eqb a w && eqb b u)
  where
    one : (t : Bool) → keep_if {M = ℕ × ℕ} t (w, u) [] ≡ when t ((w, u) ∷ [])
    one true = refl
    one false = refl

of_none : OfItsPair star 4 names (λ w u. [])
unfolding kept
of_none a b w u hw hu c = one (eqb a w && eqb b u)
  where
    one : (t : Bool) → ◌≡◌ {A = List (ℕ × ℕ)} [] (when t [])
    one true = refl
    one false = refl

-- a walk that goes everywhere and names each pair it goes to names (a,b) once, if it points to the start, and else not
every_pair_lem : (a b x : ℕ) → a < 4 → b < 4 → x < 4
    → kept (names a b) (tour star 4 (λ w u. true) (λ w u. (w, u) ∷ []) (λ w u. []) 4 x) ≡ when ((points_to star a b x && adjacent star b a) && true) ((a, b) ∷ [])
every_pair_lem a b x ha hb hx =
    visited_once star 4 star_grown (λ w u. true) (λ r u v hr hu hv c d ne t. refl) (ℕ × ℕ) names (λ w u. (w, u) ∷ []) (λ w u. []) of_pair of_none a b ha hb 4 x (omega arith) hx

-- node 3 joins the path at 0, and node 2 leaves the star
joined_path : Joins path 3 0 (0 ∷ 0 ∷ 1 ∷ 0 ∷ [])
joined_path = record { there = omega arith; old = old; new = refl }
  where
    old : (j : ℕ) → j < 3 → parent (0 ∷ 0 ∷ 1 ∷ 0 ∷ []) j ≡ parent path j
    old zero h = refl
    old (suc zero) h = refl
    old (suc (suc zero)) h = refl
    old (suc (suc (suc j))) h = absurd (omega arith)

left_star : Goes star 3 2 (0 ∷ 0 ∷ 0 ∷ [])
left_star = record { not_root = omega arith; leaf = leaf; moved = moved }
  where
    leaf : (j : ℕ) → 0 < j → j < 4 → parent star j ≢ 2
    leaf zero z h e = absurd (omega arith)
    leaf (suc zero) z h e = absurd (omega arith)
    leaf (suc (suc zero)) z h e = absurd (omega arith)
    leaf (suc (suc (suc zero))) z h e = absurd (omega arith)
    leaf (suc (suc (suc (suc j)))) z h e = absurd (omega arith)

    moved : (j : ℕ) → 0 < j → j < 3 → parent (0 ∷ 0 ∷ 0 ∷ []) j ≡ new_number 2 (parent star (old_number 2 j))
    moved zero z h = absurd (omega arith)
    moved (suc zero) z h = refl
    moved (suc (suc zero)) z h = refl
    moved (suc (suc (suc j))) z h = absurd (omega arith)
