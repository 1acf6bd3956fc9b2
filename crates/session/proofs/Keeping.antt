-- The pass up the nodes: its turns, and what it keeps of each node's neighbours.
use mathlib.Core.Path.{◌≡◌, refl, sym, subst}
use mathlib.Core.Bool.{true, false, and-false}
use mathlib.Core.Logic.{◌≢◌}
use mathlib.Core.List.{List}
use Prim.Native.Nat.{ℕ, zero, suc, ◌+◌, ◌≤◌, ◌<◌, min, max}
use native.Mathlib.Decide.{ℕ_discrete}
use native.Mathlib.Nat.{le_refl, le_trans, not-suc-le-zero}
use native.Mathlib.Numerals.{add-one}
use native.Mathlib.Omega.{arith}
use lib.ListN.{get_or, set, length, length-set}
use lib.Seq.{get_or-set_same, get_or-set_other}
use borrow.Author.Tests.{le-leb, lt-leb}
use Rattle.tree.specs.Parents.{parent}
use Rattle.tree.proofs.Cases.{either, order}
use Rattle.session.specs.inner.Passes.{from_children, highs, lows, ordered_at}

-- ---- the turns, as the loop makes them

pub kept_none : (join : ℕ → ℕ → ℕ) (ps start told : List ℕ) → from_children join ps start told 0 ≡ start
unfolding from_children
kept_none join ps start told = refl

pub kept_more : (join : ℕ → ℕ → ℕ) (ps start told held : List ℕ) (k p r : ℕ) → held ≡ from_children join ps start told k → p ≡ parent ps (k + 1) → r ≡ join (get_or held p 0) (get_or told (k + 1) 0)
    → set held p r ≡ from_children join ps start told (k + 1)
kept_more join ps start told held k p r e q f = cc (more, add-one k)
  where
    more : from_children join ps start told (suc k) ≡ set (from_children join ps start told k) (parent ps (suc k)) (join (get_or (from_children join ps start told k) (parent ps (suc k)) 0) (get_or told (suc k) 0))
    more = unfold from_children in refl

module _ (ps up down : List ℕ) where
  pub high_fails : (high : List ℕ) (k p : ℕ) → high ≡ highs ps up down k → p ≡ parent ps (k + 1) → get_or up (k + 1) 0 < get_or high p 0 → ordered_at ps up down k ≡ false
  high_fails high k p e q h = rw (lt-leb (get_or (highs ps up down k) (parent ps (suc k)) 0) (get_or up (suc k) 0) (rw (e, q, add-one k) at h))

  pub low_fails : (low : List ℕ) (k p : ℕ) → low ≡ lows ps up down k → p ≡ parent ps (k + 1) → get_or low p 0 < get_or down (k + 1) 0 → ordered_at ps up down k ≡ false
  low_fails low k p e q h = rw (lt-leb (get_or down (suc k) 0) (get_or (lows ps up down k) (parent ps (suc k)) 0) (rw (e, q, add-one k) at h), and-false)

  pub both_hold : (high low : List ℕ) (k p : ℕ) → high ≡ highs ps up down k → low ≡ lows ps up down k → p ≡ parent ps (k + 1)
      → get_or high p 0 ≤ get_or up (k + 1) 0 → get_or down (k + 1) 0 ≤ get_or low p 0 → ordered_at ps up down k ≡ true
  both_hold high low k p e f q g h =
      rw (le-leb (get_or (highs ps up down k) (parent ps (suc k)) 0) (get_or up (suc k) 0) (rw (e, q, add-one k) at g), le-leb (get_or down (suc k) 0) (get_or (lows ps up down k) (parent ps (suc k)) 0) (rw (f, q, add-one k) at h))

-- ---- what is kept of a node is a bound of its start and of what its children told, and the best one

-- an order in which joining two gives their best bound: ≤ for the smaller of two, ≥ for the larger
pub record Bounds (join : ℕ → ℕ → ℕ) (R : ℕ → ℕ → Type 0) : Type 0 where
  pub same : (a : ℕ) → R a a
  pub over : (a b c : ℕ) → R a b → R b c → R a c
  pub left : (a x : ℕ) → R (join a x) a
  pub right : (a x : ℕ) → R (join a x) x
  pub best : (z a x : ℕ) → R z a → R z x → R z (join a x)

abbrev pub AtLeast : ℕ → ℕ → Type 0
AtLeast a b = b ≤ a

pub by_max : Bounds max AtLeast
by_max = record { same = le_refl; over = λ a b c p q. le_trans q p; left = λ a x. omega arith; right = λ a x. omega arith; best = λ z a x p q. omega arith }

pub by_min : Bounds min ◌≤◌
by_min = record { same = le_refl; over = λ a b c p q. le_trans p q; left = λ a x. omega arith; right = λ a x. omega arith; best = λ z a x p q. omega arith }

-- what holds of each entry after a store
after_set : (P : ℕ → ℕ → Type 0) (l : List ℕ) (i v : ℕ) → i < length l → P i v → ((j : ℕ) → j ≢ i → P j (get_or l j 0)) → (j : ℕ) → P j (get_or (set l i v) j 0)
after_set P l i v h here there j = either (ℕ_discrete j i)
    (λ e. subst (λ (x : ℕ). P x (get_or (set l i v) x 0)) (sym e) (subst (P i) (sym (get_or-set_same l i v 0 h)) here))
    (λ d. subst (P j) (sym (get_or-set_other l i j v 0 d)) (there j d))

module _ (join : ℕ → ℕ → ℕ) (R : ℕ → ℕ → Type 0) (b : Bounds join R) (ps start told : List ℕ) (inside : (j : ℕ) → parent ps j < length start) where
  kept_long : (k : ℕ) → length (from_children join ps start told k) ≡ length start
  unfolding from_children
  kept_long zero = refl
  kept_long (suc k) = rw length-set (kept_long k)

  there : (k : ℕ) → parent ps (suc k) < length (from_children join ps start told k)
  there k = rw (kept_long k) (inside (suc k))

  pub kept_start : (k u : ℕ) → R (get_or (from_children join ps start told k) u 0) (get_or start u 0)
  unfolding from_children
  kept_start zero u = b.same _
  kept_start (suc k) u =
      after_set (λ j x. R x (get_or start j 0)) (from_children join ps start told k) (parent ps (suc k)) _ (there k)
      (b.over _ _ _ (b.left _ _) (kept_start k (parent ps (suc k)))) (λ j d. kept_start k j) u

  pub kept_child : (k j : ℕ) → j < k → R (get_or (from_children join ps start told k) (parent ps (suc j)) 0) (get_or told (suc j) 0)
  unfolding from_children
  kept_child zero j h = absurd (not-suc-le-zero h)
  kept_child (suc k) j h = order j k
      (λ l. after_set (λ i x. i ≡ parent ps (suc j) → R x (get_or told (suc j) 0)) (from_children join ps start told k) (parent ps (suc k)) _ (there k)
      (λ q. b.over _ _ _ (b.left _ _) (subst (λ (i : ℕ). R (get_or (from_children join ps start told k) i 0) (get_or told (suc j) 0)) (sym q) (kept_child k j l)))
      (λ i d q. subst (λ (m : ℕ). R (get_or (from_children join ps start told k) m 0) (get_or told (suc j) 0)) (sym q) (kept_child k j l)) (parent ps (suc j)) refl)
      (λ e. subst (λ (i : ℕ). R (get_or (from_children join ps start told (suc k)) (parent ps (suc i)) 0) (get_or told (suc i) 0)) (sym e)
      (after_set (λ i x. i ≡ parent ps (suc k) → R x (get_or told (suc k) 0)) (from_children join ps start told k) (parent ps (suc k)) _ (there k) (λ q. b.right _ _) (λ i d q. absurd (d q)) (parent ps (suc k)) refl))
      (λ l. absurd (omega arith))

  pub kept_best : (z k u : ℕ) → R z (get_or start u 0) → ((j : ℕ) → j < k → parent ps (suc j) ≡ u → R z (get_or told (suc j) 0)) → R z (get_or (from_children join ps start told k) u 0)
  unfolding from_children
  kept_best z zero u h f = h
  kept_best z (suc k) u h f =
      let before : R z (get_or (from_children join ps start told k) u 0) = kept_best z k u h (λ j l q. f j (omega arith) q) in
      after_set (λ i x. i ≡ u → R z x) (from_children join ps start told k) (parent ps (suc k)) _ (there k)
      (λ q. b.best z _ _ (subst (λ (i : ℕ). R z (get_or (from_children join ps start told k) i 0)) (sym q) before) (f k (omega arith) q))
      (λ i d q. subst (λ (m : ℕ). R z (get_or (from_children join ps start told k) m 0)) (sym q) before) u refl
