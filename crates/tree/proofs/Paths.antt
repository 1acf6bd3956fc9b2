-- Along the paths from a node: what goes on from pair to pair, and that a walk's test lets through all that lies behind what it lets through.
use mathlib.Core.Path.{◌≡◌, sym, ap, ◌∙◌}
use mathlib.Core.Bool.{Bool, true, not, true≢false}
use mathlib.Core.Logic.{◌≢◌}
use mathlib.Core.List.{List}
use Prim.Native.Nat.{ℕ, zero, suc, ◌<◌, ◌≤◌}
use native.Mathlib.Nat.{le_refl}
use native.Mathlib.Decide.{ℕ_discrete}
use native.Mathlib.Omega.{arith}
use borrow.Author.Tests.{eqb-true, lt-ltb, le-ltb, ne_eqb}
use Rattle.tree.specs.Parents.{parent, Grown}
use Rattle.tree.specs.Sides.{below, adjacent, side, points_to}
use Rattle.tree.specs.Paths.{Way, arrives, goes_on}
use Rattle.tree.specs.Sizes.{size}
use Rattle.tree.specs.inner.Tours.{Closed}
use Rattle.tree.specs.Promises.{PointsExactly}
use Rattle.tree.proofs.Cases.{either, order}
use Rattle.tree.proofs.Below.{below_step}
use Rattle.tree.proofs.Toward.{adjacent_ne, adjacent_sym, complementary, next, unique, not_own, own, nested}
use Rattle.tree.proofs.Sizes.{size_least, size_less}

-- INDUCTION ALONG THE PATHS FROM x: what holds of the pairs that leave x, and goes on from a pair to the next away from x,
-- holds of every pair that has x on its own side. Turned round (P v u for P u v) it speaks of the pairs that point to x.
module _ (ps : List ℕ) (n : ℕ) (grown : Grown ps n) (x : ℕ) (hx : x < n) (P : ℕ → ℕ → Type 0)
    (base : (v : ℕ) → v < n → adjacent ps v x ≡ true → P x v)
    (step : (k u v : ℕ) → k < n → u < n → v < n → adjacent ps k u ≡ true → adjacent ps v u ≡ true → k ≢ v → side ps k u x ≡ true → P k u → P u v) where
  spreads : (s u v : ℕ) → size ps n u v ≤ s → u < n → v < n → adjacent ps v u ≡ true → side ps u v x ≡ true → P u v
  spreads zero u v l hu hv b h = absurd (omega (arith, size_least ps n grown u v hu b))
  spreads (suc s) u v l hu hv b h = either (ℕ_discrete x u)
      (λ e. rw (← e) (base v hv (rw (← e) at b)))
      (λ d. let q = next ps n grown u x hu hx d in
      let ne : q.0 ≢ v = λ o. true≢false (sym h ∙ complementary ps u v x (λ i. adjacent_ne ps v u b (sym i)) ∙ ap not (rw o at q.3)) in
      step q.0 u v q.1 hu hv q.2 b ne q.3
      (spreads s q.0 u (omega (arith, size_less ps n grown u v hu b q.0 q.1 q.2 (λ o. ne (sym o)))) q.1 hu (adjacent_sym ps u q.0 ∙ q.2) q.3))

  pub spread : (u v : ℕ) → u < n → v < n → adjacent ps v u ≡ true → side ps u v x ≡ true → P u v
  spread u v = spreads (size ps n u v) u v (le_refl (size ps n u v))

edge_of : {ps : List ℕ} {n u v x : ℕ} → Way ps n u v x → adjacent ps u v ≡ true
edge_of (arrives hu hv a) = a
edge_of (goes_on hu hv a ne r) = a

-- a path from u by v leads to nodes of v's side
leads : (ps : List ℕ) (n : ℕ) → Grown ps n → {u v x : ℕ} → x < n → Way ps n u v x → points_to ps u v x ≡ true
leads ps n grown hx (arrives {u} {v} hu hv a) = own ps n grown v u hv a
leads ps n grown {x = x} hx (goes_on {u} {v} {w} hu hv a ne r) = nested ps n grown v w u x hv hx (adjacent_sym ps w v ∙ edge_of r) a (λ o. ne (sym o)) (leads ps n grown hx r)

-- and there is one to each of them
pub points_exactly : PointsExactly
points_exactly ps n grown u v x hu hv hx a = (found, leads ps n grown hx)
  where
    found : points_to ps u v x ≡ true → Way ps n u v x
    found = spread ps n grown x hx (λ w z. Way ps n z w x) (λ z hz b. arrives hz hx b) (λ k w z hk hw hz b c ne s r. goes_on hz hw c (λ o. ne (sym o)) r) v u hv hu a

-- the smaller of two neighbours is the parent
parent_is : (ps : List ℕ) (s t : ℕ) → s < t → adjacent ps s t ≡ true → parent ps t ≡ s
parent_is ps s t l a = eqb-true (parent ps t) s (rw (lt-ltb s t l) at a)

module _ (ps : List ℕ) (n : ℕ) (grown : Grown ps n) where
  -- an edge is crossed only by its own two ends
  below_edge : (c s t : ℕ) → s < n → t < n → adjacent ps s t ≡ true → (c ≡ s → parent ps c ≢ t) → (c ≡ t → parent ps c ≢ s) → below ps c s ≡ below ps c t
  below_edge c s t hs ht a f g = order s t
      (λ l. let e = parent_is ps s t l a in
      sym (rw (below_step ps n grown c t (omega arith) ht, ne_eqb t c (λ o. g (sym o) (rw (← o) e)), e)))
      (λ e. absurd (adjacent_ne ps s t a e))
      (λ l. let e = parent_is ps t s l (adjacent_sym ps t s ∙ a) in
      rw (below_step ps n grown c s (omega arith) hs, ne_eqb s c (λ o. f (sym o) (rw (← o) e)), e))

  -- the ends of an edge are on the same side of any other edge
  pub edge : (p q s t : ℕ) → s < n → t < n → adjacent ps p q ≡ true → adjacent ps s t ≡ true → q ≢ s → q ≢ t → side ps p q s ≡ side ps p q t
  edge p q s t hs ht b a d d' = order p q
      (λ l. rw (le-ltb q p (omega arith), below_edge q s t hs ht a (λ o. absurd (d o)) (λ o. absurd (d' o))))
      (λ e. absurd (adjacent_ne ps p q b e))
      (λ l. let e = parent_is ps q p l (adjacent_sym ps q p ∙ b) in
      rw (lt-ltb q p l) (below_edge p s t hs ht a (λ o i. d' (sym e ∙ i)) (λ o i. d (sym e ∙ i))))

  module _ (go : ℕ → ℕ → Bool) (closed : Closed ps n go) where
    -- the way to b's neighbour a leads through the way to u's neighbour k
    pub through : (k u a b : ℕ) → k < n → u < n → a < n → b < n → adjacent ps k u ≡ true → adjacent ps b a ≡ true
        → side ps b a u ≡ true → side ps k u a ≡ true → go a b ≡ true → go k u ≡ true
    through k u a b hk hu ha hb c d s = spread ps n grown u hu (λ b a. side ps k u a ≡ true → go a b ≡ true → go k u ≡ true)
        (λ v hv e t g. rw (unique ps n grown u k v v hu hv c e t (own ps n grown v u hv (adjacent_sym ps u v ∙ e))) g)
        (λ i w v hi hw hv e e' ne t p q g. p
        (edge k u w v hw hv c (adjacent_sym ps w v ∙ e')
        (λ o. true≢false (sym t ∙ rw o (not_own ps n grown w i hw e)))
        (λ o. true≢false (sym q ∙ rw (← o) (not_own ps n grown u k hu c))) ∙ q)
        (closed v w i hv hw hi e' e (λ o. ne (sym o)) g))
        b a hb ha (adjacent_sym ps a b ∙ d) s
