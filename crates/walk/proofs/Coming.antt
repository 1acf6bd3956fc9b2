-- Who was told something may tell it further: x is beyond the neighbour that told, and beyond no other.
use mathlib.Core.Path.{◌≡◌, refl, sym, ap, ◌∙◌}
use mathlib.Core.Bool.{true, not, true≢false}
use Prim.Native.Nat.{ℕ, ◌<◌}
use native.Mathlib.Decide.{ℕ_discrete}
use lib.IntN.{ℤ, pos}
use borrow.Author.Tests.{eq-eqb, ne_eqb}
use Rattle.tree.specs.Parents.{Grown}
use Rattle.tree.specs.Ranges.{Range}
use Rattle.tree.specs.Sides.{adjacent, side, other}
use Rattle.tree.specs.Sizes.{size}
use Rattle.tree.proofs.Cases.{either}
use Rattle.tree.proofs.Toward.{adjacent_ne, adjacent_sym, complementary, not_own, nested}
use Rattle.mechanism.specs.Views.{View}
use Rattle.mechanism.proofs.Others.{others}
use Rattle.walk.specs.inner.Telling.{Come}

module _ (q : View) (x : ℕ) (grown : Grown q.parents q.count) (hx : x < q.count) where
  -- nobody told x
  pub come_first : Come q x x x (pos 0)
  come_first =
      record {
        toward = λ c hc a. not_own q.parents q.count grown x c hx a ∙ sym (ne_eqb c x (adjacent_ne q.parents c x a));
        something = λ a. absurd (adjacent_ne q.parents x x a refl);
        nothing = λ a. refl;
      }

  -- w, told y by u, that was told z by v
  pub come_on : (u v w : ℕ) (z y : ℤ) → u < q.count → w < q.count → Come q x u v z → other q.parents u v w ≡ true → Range (size q.parents q.count u w) y → Come q x w u y
  come_on u v w z y hu hw come o r =
      record {
        toward =
            λ c hc a.
            either (ℕ_discrete c u)
            (λ e. rw (eq-eqb c u e, e) behind)
            (λ d. rw (ne_eqb c u d) (complementary q.parents c w x (adjacent_ne q.parents c w a) ∙ ap not (nested q.parents q.count grown w u c x hw hx back a (λ e. d (sym e)) behind)));
        something = λ a. r;
        nothing = λ a. absurd (true≢false (sym back ∙ a));
      }
    where
      near : adjacent q.parents w u ≡ true
      near = (others q.parents u v w o).0

      back : adjacent q.parents u w ≡ true
      back = adjacent_sym q.parents u w ∙ near

      behind : side q.parents u w x ≡ true
      behind = complementary q.parents u w x (adjacent_ne q.parents u w back) ∙ ap not (come.toward w hw near ∙ ne_eqb w v (λ e. (others q.parents u v w o).1 (sym e)))
