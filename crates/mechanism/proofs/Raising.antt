-- What a combine makes of the numbers: those of the pairs that point to x become b, and all others stay.
use mathlib.Core.Path.{◌≡◌, refl, sym, ap, ◌∙◌}
use mathlib.Core.Bool.{Bool, true, false, cond, ◌&&◌, and-false}
use mathlib.Core.Logic.{◌⊎◌, inl, inr}
use mathlib.Core.List.{List, [], ◌∷◌}
use Prim.Native.Nat.{ℕ, zero, suc, ◌+◌, ◌<◌, ◌≤◌}
use native.Mathlib.Nat.{zero-add, add-zero, suc-add, add-suc, not-suc-le-zero, le_of_suc-le-suc}
use native.Mathlib.Omega.{arith}
use lib.Dec.{ltb}
use lib.ListN.{get_or, length}
use borrow.Author.Tests.{eqb-true, lt-ltb, le-ltb}
use Rattle.tree.specs.Parents.{parent}
use Rattle.tree.specs.Sides.{adjacent, points_to}
use Rattle.tree.proofs.Cases.{order}
use Rattle.tree.proofs.Toward.{adjacent_ne}
use Rattle.session.specs.Holding.{pair_at, Long}
use Rattle.session.specs.declared.Pairs.{Pairs}
use Rattle.mechanism.specs.Applying.{read_at, Links, cell, each, raised_at, up_raised, down_raised, renumbered, raised}
use Rattle.mechanism.proofs.Cells.{Wide, way, same_cell}

module _ {A : Type 0} (g : ℕ → A → A) where
  each_length : (i : ℕ) (l : List A) → length (each g i l) ≡ length l
  unfolding each
  each_length i [] = refl
  each_length i (a ∷ l) = ap suc (each_length (suc i) l)

  each_read : (d : A) (i j : ℕ) (l : List A) → j < length l → get_or (each g i l) j d ≡ g (i + j) (get_or l j d)
  unfolding each
  each_read d i j [] h = absurd (not-suc-le-zero h)
  each_read d i zero (a ∷ l) h = rw add-zero
  each_read d i (suc j) (a ∷ l) h = each_read d (suc i) j l (le_of_suc-le-suc h) ∙ ap (λ k. g k (get_or l j d)) (suc-add i j ∙ sym (add-suc i j))

module _ (n : ℕ) (points : ℕ → Bool) (b : ℕ) (p : Pairs) (h : Long p) where
  long_raised : Long (renumbered (raised_at n points b p.lease) p)
  long_raised = record { leases = each_length _ 0 p.lease ∙ h.leases; caches = h.caches; counts = h.counts }

  at_place : (i : ℕ) → i < 256 → get_or (raised_at n points b p.lease) i 0 ≡ cond ((ltb 0 i && ltb i n) && points i) b (get_or p.lease i 0)
  at_place i l = each_read (λ i k. cond ((ltb 0 i && ltb i n) && points i) b k) 0 0 i p.lease (omega (arith, h.leases)) ∙ rw zero-add

  lifted : (i : ℕ) → i < 256 → 0 < i → i < n → get_or (raised_at n points b p.lease) i 0 ≡ cond (points i) b (get_or p.lease i 0)
  lifted i l z m = at_place i l ∙ rw (lt-ltb 0 i z, lt-ltb i n m)

  left_alone : (i : ℕ) → i < 256 → (i ≡ 0) ⊎ (n ≤ i) → read_at (renumbered (raised_at n points b p.lease) p) i ≡ read_at p i
  left_alone i l u = same_cell _ _ _ _ _ _ (at_place i l ∙ ap (λ (t : Bool). cond (t && points i) b (get_or p.lease i 0)) (idle u)) refl refl
    where
      idle : (i ≡ 0) ⊎ (n ≤ i) → (ltb 0 i && ltb i n) ≡ false
      idle (inl e) = rw (le-ltb 0 i (omega arith))
      idle (inr m) = rw (le-ltb i n m, and-false (ltb 0 i))

module _ (ps : List ℕ) (n b x : ℕ) (l : Links) (h : Wide l) where
  pub wide_raised : Wide (raised ps n b x l)
  unfolding raised up_raised down_raised
  wide_raised = record { up_long = long_raised n _ b l.up h.up_long; down_long = long_raised n _ b l.down h.down_long }

  pub cell_raised : (u v : ℕ) → u < n → v < n → n ≤ 256 → adjacent ps v u ≡ true
      → cell (raised ps n b x l) u v ≡ record { lease = cond (points_to ps u v x) b (cell l u v).lease; cache = (cell l u v).cache; sent = (cell l u v).sent }
  unfolding cell pair_at raised up_raised down_raised
  cell_raised u v hu hv hn a = order u v
      (λ o. let e : parent ps v ≡ u = eqb-true (parent ps v) u (rw (le-ltb v u (omega arith), lt-ltb u v o) at a) in
      rw (le-ltb v u (omega arith), lifted n (λ i. points_to ps (parent ps i) i x) b l.down h.down_long v (omega arith) (omega arith) hv, e))
      (λ e. absurd (adjacent_ne ps v u a (sym e)))
      (λ o. let e : parent ps u ≡ v = eqb-true (parent ps u) v (rw (lt-ltb v u o) at a) in
      rw (lt-ltb v u o, lifted n (λ i. points_to ps i (parent ps i) x) b l.up h.up_long u (omega arith) (omega arith) hu, e))

  pub idle_raised : (t : Bool) (i : ℕ) → i < 256 → (i ≡ 0) ⊎ (n ≤ i) → read_at (way t (raised ps n b x l)) i ≡ read_at (way t l) i
  unfolding raised up_raised down_raised
  idle_raised true i m u = left_alone n _ b l.up h.up_long i m u
  idle_raised false i m u = left_alone n _ b l.down h.down_long i m u
