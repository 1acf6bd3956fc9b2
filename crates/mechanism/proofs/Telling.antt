-- A write's walk through any view is a tour: what an update carries is a function of its pair.
use mathlib.Core.Path.{◌≡◌, refl, sym, ap, ap₂, ◌∙◌}
use mathlib.Core.Bool.{Bool, true, false, not, cond, ◌&&◌}
use mathlib.Core.Logic.{◌≢◌}
use mathlib.Core.List.{List, [], ◌∷◌, ◌++◌}
use Prim.Native.Nat.{ℕ, zero, suc, ◌≤◌, ◌<◌}
use native.Mathlib.Nat.{le_refl}
use native.Mathlib.Decide.{ℕ_discrete}
use native.Mathlib.Omega.{arith}
use lib.Dec.{eqb}
use lib.IntN.{ℤ}
use borrow.Author.Tests.{eq-eqb, ne_eqb}
use Rattle.tree.specs.Operation.{Op}
use Rattle.tree.specs.Parents.{Grown}
use Rattle.tree.specs.Sides.{adjacent, side, other}
use Rattle.tree.specs.Sizes.{size}
use Rattle.tree.specs.Kept.{when}
use Rattle.tree.specs.inner.Tours.{visit, tour}
use Rattle.tree.proofs.Cases.{either}
use Rattle.tree.proofs.Toward.{adjacent_ne, adjacent_sym, complementary, own, not_own, nested}
use Rattle.tree.proofs.Sizes.{size_least, size_less, sizes_add}
use Rattle.tree.proofs.Turns.{round_same}
use Rattle.messages.specs.declared.Message.{Message}
use Rattle.messages.specs.declared.Message.TheVariants.{Update}
use Rattle.mechanism.specs.Views.{View}
use Rattle.mechanism.specs.Spreading.{total, carried, sends, spread, write, released}
use Rattle.mechanism.specs.Pairwise.{carry, tell}
use Rattle.mechanism.proofs.Others.{others, size_most}
use Rattle.mechanism.proofs.Totals.{total_same}

-- where u tells w in a write at x, and what it and w say
abbrev pub tells : View → ℕ → ℕ → Bool
tells q w u = not (eqb (q.lease u w) 0)

abbrev pub updates : Op ℤ → View → ℕ → ℕ → ℕ → List Message
updates op q x w u = Update u w (tell op q x u w) ∷ []

abbrev pub releases : View → ℕ → ℕ → List Message
releases q w u = released (q.lease u w) u w

module _ (op : Op ℤ) (q : View) (x : ℕ) where
  -- one neighbour's part
  sends_log : (k u v w : ℕ) (z : ℤ) (next : ℕ → ℕ → ℤ → List Message)
      → (other q.parents u v w ≡ true → Update u w (carried op q u v z w) ∷ (next w u (carried op q u v z w) ++ releases q w u) ≡ visit q.parents q.count (tells q) (updates op q x) (releases q) k w u)
      → sends op q (other q.parents u v w) (q.lease u w) next u v z w ≡ when (other q.parents u v w && tells q w u) (visit q.parents q.count (tells q) (updates op q x) (releases q) k w u)
  unfolding sends
  sends_log k u v w z next h = go (other q.parents u v w) (q.lease u w) h
    where
      go : (o : Bool) (m : ℕ)
          → (o ≡ true → Update u w (carried op q u v z w) ∷ (next w u (carried op q u v z w) ++ released m u w) ≡ visit q.parents q.count (tells q) (updates op q x) (releases q) k w u)
          → sends op q o m next u v z w ≡ when (o && not (eqb m 0)) (visit q.parents q.count (tells q) (updates op q x) (releases q) k w u)
      go false m h = refl
      go true zero h = refl
      go true (suc zero) h = h refl
      go true (suc (suc m)) h = rw (ne_eqb (suc (suc m)) 0 (omega arith)) (h refl)

  module _ (grown : Grown q.parents q.count) (hx : x < q.count) where
    -- a falling number that is enough, and a larger one
    enough : (k m u w : ℕ) → size q.parents q.count u w ≤ k → size q.parents q.count u w ≤ m → u < q.count → adjacent q.parents w u ≡ true
        → carry op q x k u w ≡ carry op q x m u w
    unfolding carry
    enough zero m u w l i hu a = absurd (omega (arith, size_least q.parents q.count grown u w hu a))
    enough (suc k) zero u w l i hu a = absurd (omega (arith, size_least q.parents q.count grown u w hu a))
    enough (suc k) (suc m) u w l i hu a =
        total_same op q _ _ u w q.count hu (le_refl q.count) (λ c hc o.
        let e = others q.parents u w c o in let s = size_less q.parents q.count grown u w hu a c hc e.0 e.1 in
        ap (λ y. cond (side q.parents c u x) y (q.cache c u)) (enough k m c u (omega arith) (omega arith) hc (adjacent_sym q.parents u c ∙ e.0)))

    -- what u tells w comes of what u was told by its neighbour towards x
    tell_is : (k u w : ℕ) → size q.parents q.count u w ≤ k → u < q.count → adjacent q.parents w u ≡ true
        → carry op q x k u w ≡ total op q (λ c. cond (side q.parents c u x) (tell op q x c u) (q.cache c u)) u w q.count
    unfolding carry
    tell_is zero u w l hu a = absurd (omega (arith, size_least q.parents q.count grown u w hu a))
    tell_is (suc k) u w l hu a = total_same op q _ _ u w q.count hu (le_refl q.count) (λ c hc o.
        let e = others q.parents u w c o in let b = adjacent_sym q.parents u c ∙ e.0 in
        ap (λ y. cond (side q.parents c u x) y (q.cache c u))
        (enough k q.count c u (omega (arith, size_less q.parents q.count grown u w hu a c hc e.0 e.1)) (size_most q.parents q.count grown c u hc hu b) hc b))

    -- u, told z by v: v is its neighbour towards x, unless u is x, which nobody told
    record Come (u v : ℕ) (z : ℤ) : Type 0 where
      brought : (c : ℕ) → adjacent q.parents c u ≡ true → c ≡ v → (side q.parents c u x ≡ true) × (z ≡ tell op q x c u)
      away : (c : ℕ) → adjacent q.parents c u ≡ true → c ≢ v → side q.parents c u x ≡ false

    carried_is : (u v : ℕ) (z : ℤ) (w : ℕ) → u < q.count → w < q.count → adjacent q.parents w u ≡ true → Come u v z → carried op q u v z w ≡ tell op q x u w
    carried_is u v z w hu hw a come =
        total_same op q _ _ u w q.count hu (le_refl q.count) (λ c hc o.
        let e = others q.parents u w c o in
        either (ℕ_discrete c v)
        (λ p. rw (eq-eqb c v p, (come.brought c e.0 p).0) (come.brought c e.0 p).1)
        (λ p. rw (ne_eqb c v p, come.away c e.0 p)))
        ∙ sym (tell_is q.count u w (size_most q.parents q.count grown u w hu hw a) hu a)

    spread_log : (k u v : ℕ) (z : ℤ) → size q.parents q.count u v ≤ k → u < q.count → v < q.count → adjacent q.parents v u ≡ true → z ≡ tell op q x v u → side q.parents v u x ≡ true
        → Update v u z ∷ (spread op q k u v z ++ releases q u v) ≡ visit q.parents q.count (tells q) (updates op q x) (releases q) (suc k) u v
    unfolding spread visit
    spread_log zero u v z l hu hv a e t = absurd (omega (arith, size_least q.parents q.count grown u v hu a))
    spread_log (suc k) u v z l hu hv a e t =
        ap₂ (λ y s. Update v u y ∷ (s ++ releases q u v)) e (round_same q.count u hu _ _ (λ w hw. sends_log (suc k) u v w z (spread op q k) (λ o.
        let i = others q.parents u v w o in
        spread_log k w u (carried op q u v z w) (omega (arith, size_less q.parents q.count grown u v hu a w hw i.0 i.1)) hw hu (adjacent_sym q.parents u w ∙ i.0)
        (carried_is u v z w hu hw i.0 come)
        (nested q.parents q.count grown u v w x hu hx a i.0 i.1 t))))
      where
        come : Come u v z
        come = record {
          brought = λ c i p. (rw p t, rw p e);
          away = λ c i p. complementary q.parents c u x (adjacent_ne q.parents c u i) ∙ ap not (nested q.parents q.count grown u v c x hu hx a i (λ o. p (sym o)) t);
        }

    told_tour : (k : ℕ) (z : ℤ) → q.count ≤ k → spread op q k x x z ≡ tour q.parents q.count (tells q) (updates op q x) (releases q) k x
    unfolding spread
    told_tour zero z l = absurd (omega arith)
    told_tour (suc k) z l = round_same q.count x hx _ _ (λ w hw. sends_log (suc k) x x w z (spread op q k) (λ o.
        let a = (others q.parents x x w o).0 in let b = adjacent_sym q.parents x w ∙ a in
        spread_log k w x (carried op q x x z w) (omega (arith, sizes_add q.parents q.count grown w x hw hx b, size_least q.parents q.count grown x w hx a)) hw hx b
        (carried_is x x z w hx hw a come)
        (own q.parents q.count grown x w hx a)))
      where
        come : Come x x z
        come = record {
          brought = λ c i p. absurd (adjacent_ne q.parents c x i p);
          away = λ c i p. not_own q.parents q.count grown x c hx i;
        }

    pub write_tour : write op q x ≡ tour q.parents q.count (tells q) (updates op q x) (releases q) q.count x
    write_tour = told_tour q.count op.ε (le_refl q.count)
