-- What holds of the caches, and goes from the neighbours of a node to its total, holds of all that is told.
use mathlib.Core.Path.{◌≡◌, refl, sym, ◌∙◌}
use mathlib.Core.Bool.{Bool, true, false, cond}
use mathlib.Core.Logic.{◌≢◌}
use Prim.Native.Nat.{ℕ, zero, suc, ◌≤◌, ◌<◌}
use native.Mathlib.Omega.{arith}
use lib.Dec.{eqb}
use lib.IntN.{ℤ}
use borrow.Author.Tests.{eqb-false}
use Rattle.tree.specs.Operation.{Op}
use Rattle.tree.specs.Parents.{Grown}
use Rattle.tree.specs.Sides.{adjacent, side, other}
use Rattle.tree.specs.Sizes.{size}
use Rattle.tree.proofs.Toward.{adjacent_sym}
use Rattle.tree.proofs.Sizes.{size_least, size_less}
use Rattle.session.specs.Soundness.{Ordered}
use Rattle.mechanism.specs.Views.{View}
use Rattle.mechanism.specs.Combining.{Said, heard, hears, ask}
use Rattle.mechanism.specs.Spreading.{total}
use Rattle.mechanism.specs.Pairwise.{carry}
use Rattle.mechanism.proofs.Others.{others}
use Rattle.mechanism.proofs.Totals.{sum_is}

-- two neighbours of a view
pub record Edge (q : View) (u v : ℕ) : Type 0 where
  pub near : u < q.count
  pub far : v < q.count
  pub edge : adjacent q.parents v u ≡ true

-- an edge goes on from u, come from w, to its other neighbour c
pub further : (q : View) (u w c : ℕ) → u < q.count → c < q.count → other q.parents u w c ≡ true → Edge q c u
further q u w c hu hc o = record { near = hc; far = hu; edge = adjacent_sym q.parents u c ∙ (others q.parents u w c o).0 }

module _ (op : Op ℤ) (q : View) (grown : Grown q.parents q.count) (Q : ℕ → ℕ → ℤ → Type 0)
    (totals : (g : ℕ → ℤ) (u v : ℕ) → Edge q u v → ((c : ℕ) → c < q.count → other q.parents u v c ≡ true → Q c u (g c)) → Q u v (total op q g u v q.count)) where
  fewer : (u v c : ℕ) → Edge q u v → c < q.count → other q.parents u v c ≡ true → size q.parents q.count c u < size q.parents q.count u v
  fewer u v c p hc o = let e = others q.parents u v c o in size_less q.parents q.count grown u v p.near p.edge c hc e.0 e.1

  module _ (caches : (u v : ℕ) → Edge q u v → q.lease u v ≢ 0 → Q u v (q.cache u v)) where
    heard_has : (next : ℕ → ℕ → Said) (u c : ℕ) → Edge q c u → Q c u (next c u).sum → Q c u (hears op q next u c).sum
    unfolding heard
    heard_has next u c p r = go (eqb (q.lease c u) 0) refl
      where
        go : (b : Bool) → eqb (q.lease c u) 0 ≡ b → Q c u (heard op q b next u c).sum
        go true t = r
        go false t = caches c u p (eqb-false (q.lease c u) 0 t)

    -- a falling number that is too small does no harm where Q holds of a node's own value
    pub ask_has : (k u v : ℕ) → Edge q u v → (k < size q.parents q.count u v → (a b : ℕ) → Edge q a b → Q a b (q.value a)) → Q u v (ask op q k u v).sum
    unfolding ask
    ask_has zero u v p short = short (omega (arith, size_least q.parents q.count grown u v p.near p.edge)) u v p
    ask_has (suc k) u v p short = rw (sum_is op q (ask op q k) u v q.count) (totals (λ c. (hears op q (ask op q k) u c).sum) u v p (λ c hc o.
        let e = further q u v c p.near hc o in
        heard_has (ask op q k) u c e (ask_has k c u e (λ l. short (omega (arith, fewer u v c p hc o))))))

    -- what u, come from v, hears of its other neighbours
    pub hears_has : (k u v : ℕ) → u < q.count → ((w : ℕ) → Edge q w u → k < size q.parents q.count w u → (a b : ℕ) → Edge q a b → Q a b (q.value a))
        → (c : ℕ) → c < q.count → other q.parents u v c ≡ true → Q c u (hears op q (ask op q k) u c).sum
    hears_has k u v hu short c hc o = let e = further q u v c hu hc o in heard_has (ask op q k) u c e (ask_has k c u e (short c e))

  -- in a write the caches beyond x are not used
  pub carry_has : (x : ℕ) → Ordered q.parents q.count q.lease → ((u v : ℕ) → Edge q u v → q.lease u v ≢ 0 → side q.parents u v x ≡ false → Q u v (q.cache u v))
      → (k u w : ℕ) → size q.parents q.count u w ≤ k → Edge q u w → q.lease u w ≢ 0 → Q u w (carry op q x k u w)
  unfolding carry
  carry_has x ordered caches zero u w l p d = absurd (omega (arith, size_least q.parents q.count grown u w p.near p.edge))
  carry_has x ordered caches (suc k) u w l p d = totals (λ c. cond (side q.parents c u x) (carry op q x k c u) (q.cache c u)) u w p (λ c hc o.
      let i = others q.parents u w c o in let e = further q u w c p.near hc o in
      let m : q.lease c u ≢ 0 = λ j. d (omega (arith, ordered c u w hc p.near p.far i.0 p.edge (λ j. i.1 (sym j)))) in
      one (side q.parents c u x) c (caches c u e m) (carry_has x ordered caches k c u (omega (arith, fewer u w c p hc o)) e m))
    where
      one : (t : Bool) (c : ℕ) → (t ≡ false → Q c u (q.cache c u)) → Q c u (carry op q x k c u) → Q c u (cond t (carry op q x k c u) (q.cache c u))
      one true c a b = b
      one false c a b = a refl
