-- The tree after a leaf joins or goes: neighbours and sides are as they were.
use mathlib.Core.Path.{◌≡◌, refl, sym, ap, ◌∙◌}
use mathlib.Core.Logic.{◌≢◌}
use mathlib.Core.List.{List}
use Prim.Native.Nat.{ℕ, zero, suc, ◌-◌, ◌<◌, ◌≤◌}
use native.Mathlib.Decide.{ℕ_discrete}
use native.Mathlib.Omega.{arith}
use lib.Dec.{eqb, ltb}
use borrow.Author.Tests.{lt-ltb, le-ltb, eq-eqb, ne_eqb}
use Rattle.tree.specs.Parents.{parent, Grown}
use Rattle.tree.specs.Sides.{below, adjacent, side}
use Rattle.tree.specs.Leaves.{Joins, Goes, new_number, old_number}
use Rattle.tree.specs.Promises.{JoinGrown, JoinAdjacent, JoinSide, JoinLeaf, GoGrown, GoAdjacent, GoSide}
use Rattle.tree.proofs.Cases.{either, order, lt_or_le}
use Rattle.tree.proofs.Below.{below_root, below_step, inherited}

-- ONE LAW FOR RENUMBERING: a map σ of the nodes of the tree qs into those of ps that keeps the root, the parents and the order keeps neighbours and sides
module _ (ps : List ℕ) (n : ℕ) (grown : Grown ps n) (qs : List ℕ) (m : ℕ) (grown' : Grown qs m) (σ : ℕ → ℕ) (root : σ 0 ≡ 0)
    (there : (j : ℕ) → 0 < j → j < m → (0 < σ j) × (σ j < n) × (parent ps (σ j) ≡ σ (parent qs j))) (ordered : (i j : ℕ) → i < j → σ i < σ j) where
  less : (i j : ℕ) → ltb (σ i) (σ j) ≡ ltb i j
  less i j = order i j
      (λ l. lt-ltb (σ i) (σ j) (ordered i j l) ∙ sym (lt-ltb i j l))
      (λ e. rw e (le-ltb (σ j) (σ j) (omega arith) ∙ sym (le-ltb j j (omega arith))))
      (λ l. le-ltb (σ i) (σ j) (omega (arith, ordered j i l)) ∙ sym (le-ltb i j (omega arith)))

  equal : (i j : ℕ) → eqb (σ i) (σ j) ≡ eqb i j
  equal i j = order i j
      (λ l. ne_eqb (σ i) (σ j) (omega (arith, ordered i j l)) ∙ sym (ne_eqb i j (omega arith)))
      (λ e. rw e (eq-eqb (σ j) (σ j) refl ∙ sym (eq-eqb j j refl)))
      (λ l. ne_eqb (σ i) (σ j) (omega (arith, ordered j i l)) ∙ sym (ne_eqb i j (omega arith)))

  below_map : (i j : ℕ) → j < m → below ps (σ i) (σ j) ≡ below qs i j
  below_map i = inherited qs m grown' (λ j. below ps (σ i) (σ j) ≡ below qs i j) step
    where
      step : (j : ℕ) → j < m → (0 < j → below ps (σ i) (σ (parent qs j)) ≡ below qs i (parent qs j)) → below ps (σ i) (σ j) ≡ below qs i j
      step zero h r = ap (below ps (σ i)) root ∙ below_root ps (σ i) ∙ ap (λ a. eqb a (σ i)) (sym root) ∙ equal 0 i ∙ sym (below_root qs i)
      step (suc j) h r =
          let z : 0 < suc j = omega arith in
          let t = there (suc j) z h in
          rw (below_step ps n grown (σ i) (σ (suc j)) t.0 t.1, below_step qs m grown' i (suc j) z h, t.2, equal (suc j) i, r z)

  side_map : (u v j : ℕ) → j < m → side qs u v j ≡ side ps (σ u) (σ v) (σ j)
  side_map u v j h = rw (less v u, below_map u j h, below_map v j h)

  adjacent_map : (u v : ℕ) → u < m → v < m → adjacent qs u v ≡ adjacent ps (σ u) (σ v)
  adjacent_map u v hu hv = order u v
      (λ l. rw (lt-ltb u v l, lt-ltb (σ u) (σ v) (ordered u v l), (there v (omega arith) hv).2, equal (parent qs v) u))
      (λ e. rw (le-ltb u v (omega arith), le-ltb v u (omega arith), less u v, less v u, le-ltb u v (omega arith), le-ltb v u (omega arith)))
      (λ l. rw (le-ltb u v (omega arith), lt-ltb v u l, less u v, less v u, le-ltb u v (omega arith), lt-ltb v u l, (there u (omega arith) hu).2, equal (parent qs u) v))

pub join_grown : JoinGrown
join_grown ps n p qs grown joins i z h = either (ℕ_discrete i n)
    (λ e. omega (arith, ap (parent qs) e, joins.new, joins.there))
    (λ d. omega (arith, joins.old i (omega arith), grown i z (omega arith)))

module _ (ps : List ℕ) (n p : ℕ) (qs : List ℕ) (grown : Grown ps n) (joins : Joins ps n p qs) where
  stays : (j : ℕ) → 0 < j → j < n → (0 < j) × (j < suc n) × (parent qs j ≡ parent ps j)
  stays j z h = (z, omega arith, joins.old j h)

  below_old : (i j : ℕ) → j < n → below qs i j ≡ below ps i j
  below_old = below_map qs (suc n) (join_grown ps n p qs grown joins) ps n grown (λ j. j) refl stays (λ i j l. l)

  below_leaf : (i : ℕ) → i < n → below qs i n ≡ below ps i p
  below_leaf i h = rw (below_step qs (suc n) (join_grown ps n p qs grown joins) i n (omega arith) (omega arith), ne_eqb n i (omega arith), joins.new) (below_old i p joins.there)

pub join_adjacent : JoinAdjacent
join_adjacent ps n p qs grown joins u v hu hv =
    sym (adjacent_map qs (suc n) (join_grown ps n p qs grown joins) ps n grown (λ j. j) refl (stays ps n p qs grown joins) (λ i j l. l) u v hu hv)

pub join_side : JoinSide
join_side ps n p qs grown joins u v j hu hv h = rw (below_old ps n p qs grown joins u j h, below_old ps n p qs grown joins v j h)

pub join_leaf : JoinLeaf
join_leaf ps n p qs grown joins u v hu hv = rw (below_leaf ps n p qs grown joins u hu, below_leaf ps n p qs grown joins v hv)

-- ---- a leaf goes

raised_cases : {X : Type 0} (x j : ℕ) → (j < x → old_number x j ≡ j → X) → (x ≤ j → old_number x j ≡ suc j → X) → X
raised_cases x j f g = lt_or_le j x (λ a. f a (rw (lt-ltb j x a))) (λ a. g a (rw (le-ltb j x a)))

raised_lowered : (x y : ℕ) → y ≢ x → old_number x (new_number x y) ≡ y
raised_lowered x y d = order y x
    (λ a. rw (le-ltb x y (omega arith), lt-ltb y x a))
    (λ e. absurd (d e))
    (λ a. rw (lt-ltb x y a, le-ltb (y - 1) x (omega arith)) (omega arith))

raised_ordered : (x i j : ℕ) → i < j → old_number x i < old_number x j
raised_ordered x i j l = raised_cases x i
    (λ a e. raised_cases x j (λ b o. omega arith) (λ b o. omega arith))
    (λ a e. raised_cases x j (λ b o. omega arith) (λ b o. omega arith))

module _ (ps : List ℕ) (m x : ℕ) (qs : List ℕ) (goes : Goes ps m x qs) where
  raised_root : old_number x 0 ≡ 0
  raised_root = rw (lt-ltb 0 x goes.not_root)

  moves : (j : ℕ) → 0 < j → j < m → (0 < old_number x j) × (old_number x j < suc m) × (parent ps (old_number x j) ≡ old_number x (parent qs j))
  moves j p h =
      let a : (0 < old_number x j) × (old_number x j < suc m) = raised_cases x j (λ l e. omega arith) (λ l e. omega arith) in
      (a.0, a.1, sym (ap (old_number x) (goes.moved j p h) ∙ raised_lowered x (parent ps (old_number x j)) (goes.leaf (old_number x j) a.0 a.1)))

pub go_grown : GoGrown
go_grown ps m x qs grown goes j p h =
    let t = moves ps m x qs goes j p h in
    let l = grown (old_number x j) t.0 t.1 in
    raised_cases x j
    (λ a e. raised_cases x (parent qs j) (λ b o. omega (arith, t.2)) (λ b o. omega (arith, t.2)))
    (λ a e. raised_cases x (parent qs j) (λ b o. omega (arith, t.2)) (λ b o. omega (arith, t.2)))

pub go_adjacent : GoAdjacent
go_adjacent ps m x qs grown goes =
    adjacent_map ps (suc m) grown qs m (go_grown ps m x qs grown goes) (old_number x) (raised_root ps m x qs goes) (moves ps m x qs goes) (raised_ordered x)

pub go_side : GoSide
go_side ps m x qs grown goes =
    side_map ps (suc m) grown qs m (go_grown ps m x qs grown goes) (old_number x) (raised_root ps m x qs goes) (moves ps m x qs goes) (raised_ordered x)
