-- Document 01's star and path: the definitions compute what it says of them.
use mathlib.Core.Path.{◌≡◌, refl}
use mathlib.Core.Bool.{true, false}
use mathlib.Core.List.{List, [], ◌∷◌}
use Prim.Native.Nat.{ℕ}
use Rattle.tree.specs.Sides.{climb, below, points_to}
use Rattle.tree.specs.Sizes.{size_below, listed}
use Rattle.tree.specs.Turns.{turn, joined}
use Rattle.tree.specs.inner.Tours.{visit, tour}

-- node 0 with children 1, 2, 3; and 0-1-2 in a path
abbrev pub star : List ℕ
star = 0 ∷ 0 ∷ 0 ∷ 0 ∷ []

abbrev pub path : List ℕ
path = 0 ∷ 0 ∷ 1 ∷ []

-- of the star's pairs, (0,1), (2,0) and (3,0) point to 1
star_points : (points_to star 0 1 1 ≡ true) × (points_to star 2 0 1 ≡ true) × (points_to star 3 0 1 ≡ true) × (points_to star 1 0 1 ≡ false) × (points_to star 0 2 1 ≡ false) × (points_to star 0 3 1 ≡ false)
unfolding below climb
star_points = (refl, refl, refl, refl, refl, refl)

-- a combine at 1 where nothing is leased: probe 1-0, probe 0-2, response 2-0, probe 0-3, response 3-0, response 0-1
star_tour : tour {M = ℕ × ℕ} star 4 (λ w u. true) (λ w u. (u, w) ∷ []) (λ w u. (w, u) ∷ []) 4 1 ≡ (1, 0) ∷ (0, 2) ∷ (2, 0) ∷ (0, 3) ∷ (3, 0) ∷ (0, 1) ∷ []
unfolding turn joined visit
star_tour = refl

path_sizes : listed (size_below path 3) 4 ≡ 3 ∷ 2 ∷ 1 ∷ 0 ∷ []
unfolding listed below climb
path_sizes = refl
