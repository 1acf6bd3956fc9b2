-- Pairs of neighbours and places: both pairs of an edge stand at its child's place.
use mathlib.Core.Path.{◌≡◌, refl, sym, ap, ◌∙◌, subst}
use mathlib.Core.Bool.{Bool, true, false, not, ◌||◌, true≢false, false≢true, and-eq-true_iff}
use mathlib.Core.Logic.{◌≢◌, ◌⊎◌, inl, inr, ⊎_elim}
use mathlib.Core.List.{List}
use Prim.Native.Nat.{ℕ, ◌<◌}
use native.Mathlib.Omega.{arith}
use lib.Dec.{eqb}
use lib.ListN.{get_or}
use borrow.Author.Tests.{eqb-true, eq-eqb, ne_eqb, lt-ltb, le-ltb}
use Rattle.tree.specs.Every.{every}
use Rattle.tree.specs.Parents.{parent, Grown}
use Rattle.tree.specs.Sides.{adjacent, other}
use Rattle.tree.proofs.Cases.{order}
use Rattle.tree.proofs.Every.{every_at, every_of}
use Rattle.tree.proofs.Toward.{adjacent_ne, adjacent_sym}
use Rattle.session.specs.Holding.{pair_at}
use Rattle.session.specs.Soundness.{every_pair, every_two}

-- ---- the entry of a pair

module _ {A : Type 0} (d : A) (up down : List A) (u v : ℕ) where
  pub pair_up : v < u → pair_at d up down u v ≡ get_or up u d
  unfolding pair_at
  pair_up h = rw (lt-ltb v u h)

  pub pair_down : u < v → pair_at d up down u v ≡ get_or down v d
  unfolding pair_at
  pair_down h = rw (le-ltb v u (omega arith))

-- ---- neighbours

-- the larger of two neighbours is the child
pub one_is_child : (ps : List ℕ) (u v : ℕ) → adjacent ps v u ≡ true → ((v < u) × (parent ps u ≡ v)) ⊎ ((u < v) × (parent ps v ≡ u))
one_is_child ps u v a = order v u
    (λ l. inl (l, eqb-true (parent ps u) v (rw (lt-ltb v u l) at a)))
    (λ e. absurd (adjacent_ne ps v u a e))
    (λ l. inr (l, eqb-true (parent ps v) u (rw (le-ltb v u (omega arith), lt-ltb u v l) at a)))

module _ (ps : List ℕ) (n : ℕ) (grown : Grown ps n) where
  pub to_child : (i : ℕ) → 0 < i → i < n → adjacent ps (parent ps i) i ≡ true
  to_child i z h = rw (lt-ltb (parent ps i) i (grown i z h)) (eq-eqb (parent ps i) (parent ps i) refl)

  pub to_parent : (i : ℕ) → 0 < i → i < n → adjacent ps i (parent ps i) ≡ true
  to_parent i z h = adjacent_sym ps i (parent ps i) ∙ to_child i z h

  -- what holds of both pairs of each child and its parent holds of every pair of neighbours
  pub by_child : (P : ℕ → ℕ → Type 0) → ((i : ℕ) → 0 < i → i < n → P i (parent ps i)) → ((i : ℕ) → 0 < i → i < n → P (parent ps i) i)
      → (u v : ℕ) → u < n → v < n → adjacent ps v u ≡ true → P u v
  by_child P f g u v hu hv a = ⊎_elim
      (λ (q : (v < u) × (parent ps u ≡ v)). subst (λ (w : ℕ). P u w) q.1 (f u (omega arith) hu))
      (λ (q : (u < v) × (parent ps v ≡ u)). subst (λ (w : ℕ). P w v) q.1 (g v (omega arith) hv))
      (one_is_child ps u v a)

-- ---- the tests of all pairs

-- a test where another holds
pub held_if : (a b : Bool) → (not a || b) ≡ true → a ≡ true → b ≡ true
held_if true b e h = e
held_if false b e h = absurd (false≢true h)

pub if_held : (a b : Bool) → (a ≡ true → b ≡ true) → (not a || b) ≡ true
if_held true b f = f refl
if_held false b f = refl

module _ (ps : List ℕ) (n : ℕ) where
  module _ (test : ℕ → ℕ → Bool) where
    pub pair_at_lem : every_pair ps n test ≡ true → (u v : ℕ) → u < n → v < n → adjacent ps v u ≡ true → test u v ≡ true
    pair_at_lem e u v hu hv a = held_if (adjacent ps v u) (test u v) (every_at (λ v. not (adjacent ps v u) || test u v) n v (every_at (λ u. every (λ v. not (adjacent ps v u) || test u v) n) n u e hu) hv) a

    pub pair_of : ((u v : ℕ) → u < n → v < n → adjacent ps v u ≡ true → test u v ≡ true) → every_pair ps n test ≡ true
    pair_of f = every_of _ n (λ u hu. every_of _ n (λ v hv. if_held (adjacent ps v u) (test u v) (f u v hu hv)))

  module _ (test : ℕ → ℕ → ℕ → Bool) where
    pub two_at : every_two ps n test ≡ true → (r u v : ℕ) → r < n → u < n → v < n → adjacent ps r u ≡ true → adjacent ps v u ≡ true → r ≢ v → test r u v ≡ true
    two_at e r u v hr hu hv a b d =
        held_if (other ps u v r) (test r u v) (every_at (λ r. not (other ps u v r) || test r u v) n r (pair_at_lem (λ u v. every (λ r. not (other ps u v r) || test r u v) n) e u v hu hv b) hr)
        (rw (a, ne_eqb v r (λ o. d (sym o))))

    pub two_of : ((r u v : ℕ) → r < n → u < n → v < n → adjacent ps r u ≡ true → adjacent ps v u ≡ true → r ≢ v → test r u v ≡ true) → every_two ps n test ≡ true
    two_of f = pair_of _ (λ u v hu hv b. every_of _ n (λ r hr. if_held (other ps u v r) (test r u v) (λ o. let p = (and-eq-true_iff (adjacent ps r u) (not (eqb v r))).0 o in f r u v hr hu hv p.0 b (λ q. true≢false (sym p.1 ∙ ap not (eq-eqb v r (sym q)))))))
