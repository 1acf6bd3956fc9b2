-- What stands before and after a place, and what is sent, is in range: the sides of a node's neighbours have no node in common.
use mathlib.Core.Path.{◌≡◌, refl, sym, ◌∙◌}
use mathlib.Core.Bool.{Bool, true, false, not, cond, ◌&&◌}
use mathlib.Core.Logic.{◌≢◌}
use Prim.Native.Nat.{ℕ, suc, ◌+◌, ◌-◌, ◌<◌, ◌≤◌}
use native.Mathlib.Nat.{le_refl, add-zero, zero-add}
use native.Mathlib.Decide.{ℕ_discrete}
use native.Mathlib.Omega.{arith}
use lib.Dec.{eqb}
use lib.IntN.{ℤ, pos, ◌+ℤ◌}
use mir.Syntax.{w64}
use mir.Val.{SFits}
use borrow.Author.Tests.{eq-eqb, ne_eqb, eqb-false}
use Rattle.tree.specs.Operation.{fold, pick, plus, sum}
use Rattle.tree.specs.Ranges.{Range}
use Rattle.tree.specs.Sides.{adjacent, side, other}
use Rattle.tree.specs.Sizes.{size}
use Rattle.tree.specs.Turns.{turn}
use Rattle.tree.proofs.Cases.{either}
use Rattle.tree.proofs.Folds.{related}
use Rattle.tree.proofs.Ranges.{nothing_in, range_adds, range_fits}
use Rattle.tree.proofs.SideLaw.{side_law}
use Rattle.tree.proofs.Sizes.{sizes_add}
use Rattle.tree.proofs.Toward.{adjacent_sym}
use Rattle.tree.proofs.Turns.{turn_inside, any_order}
use Rattle.mechanism.specs.Views.{View}
use Rattle.mechanism.specs.Spreading.{carried}
use Rattle.mechanism.proofs.Others.{others, fold_first, around, beyond}
use Rattle.mechanism.proofs.Ranging.{wider, side_in}
use Rattle.walk.specs.inner.Laters.{known_by, known, away, later}
use Rattle.walk.specs.inner.Telling.{Steady, Come, before}
use Rattle.walk.proofs.Fitting.{fits_wide}
use Rattle.walk.proofs.Split.{told_by}
use Rattle.walk.proofs.Halves.{cut, from_other, from_away, before_is, later_is}

-- what is in the range of no more nodes than there are fits
pub range_wide : (n k : ℕ) (z : ℤ) → n ≤ 256 → k ≤ n → Range k z → SFits w64 z
range_wide n k z few l r = fits_wide z (range_fits k z (omega arith) r)

module _ (q : View) (steady : Steady q) where
  -- the nodes beyond u's candidate c, where the test holds
  abbrev many : Bool → ℕ → ℕ → ℕ
  many b c u = pick plus b (size q.parents q.count c u)

  known_in : (c u : ℕ) → c < q.count → u < q.count → adjacent q.parents c u ≡ true → Range (size q.parents q.count c u) (known q c u)
  unfolding known_by
  known_in c u hc hu a = go (eqb (q.lease c u) 0) refl
    where
      go : (b : Bool) → eqb (q.lease c u) 0 ≡ b → Range (size q.parents q.count c u) (cond b (pos 0) (q.cache c u))
      go true e = nothing_in (size q.parents q.count c u)
      go false e = steady.caches_in c u hc hu (adjacent_sym q.parents u c ∙ a) (eqb-false (q.lease c u) 0 e)

  -- what u knows of those of the nodes p 0 to p (m - 1) that are neighbours and pass the test
  known_fold : (b : ℕ → Bool) (p : ℕ → ℕ) (u m : ℕ) → u < q.count → ((i : ℕ) → i < m → p i < q.count)
      → Range (fold plus (λ i. many (adjacent q.parents (p i) u && b (p i)) (p i) u) m) (fold sum (λ i. pick sum (adjacent q.parents (p i) u && b (p i)) (known q (p i) u)) m)
  known_fold b p u m hu h =
      related plus sum (λ k z. Range k z) (nothing_in 0) (λ j k y z r s. range_adds j k y z r s)
      (λ i. many (adjacent q.parents (p i) u && b (p i)) (p i) u) (λ i. pick sum (adjacent q.parents (p i) u && b (p i)) (known q (p i) u)) m
      (λ i l. one (p i) (adjacent q.parents (p i) u) (b (p i)) (known_in (p i) u (h i l) hu))
    where
      one : (c : ℕ) (a t : Bool) → (a ≡ true → Range (size q.parents q.count c u) (known q c u)) → Range (many (a && t) c u) (pick sum (a && t) (known q c u))
      one c true true r = r refl
      one c true false r = nothing_in 0
      one c false t r = nothing_in 0

  pub later_in : (x u m : ℕ) → u < q.count → m ≤ q.count → Range q.count (later q x u m)
  later_in x u m hu l = rw (later_is q x u m) (wider (fold plus back m) q.count (fold sum (λ i. from_away q x u (turn q.count u (q.count - suc i))) m)
      (omega (arith, around q.parents q.count steady.grown (λ c. not (side q.parents c u x)) u hu, any_order q.count u hu ℕ plus term, reversed, fold_first back m q.count l))
      (known_fold (λ c. not (side q.parents c u x)) (λ i. turn q.count u (q.count - suc i)) u m hu (λ i h. turn_inside q.count u hu (q.count - suc i) (omega arith))))
    where
      term : ℕ → ℕ
      term c = many (away q x u c) c u

      back : ℕ → ℕ
      back i = term (turn q.count u (q.count - suc i))

      reversed : fold plus (λ j. term (turn q.count u j)) q.count ≡ fold plus back q.count
      reversed =
          let e : q.count - q.count ≡ 0 = omega arith in
          rw e at (cut plus add-zero (λ j. term (turn q.count u j)) q.count q.count (le_refl q.count)) ∙ zero-add (fold plus back q.count)

  module _ (x u v : ℕ) (z : ℤ) (come : Come q x u v z) (hu : u < q.count) (hv : v < q.count) where
    pub before_in : (k : ℕ) → k ≤ q.count → Range q.count (before q u v z k)
    before_in k l = rw (before_is q u v z k) (go (adjacent q.parents v u) refl)
      where
        term : ℕ → ℕ
        term c = many (other q.parents u v c) c u

        place : ℕ → ℕ
        place j = term (turn q.count u j)

        known_before : Range (fold plus place k) (fold sum (λ j. from_other q u v (turn q.count u j)) k)
        known_before = known_fold (λ c. not (eqb v c)) (turn q.count u) u k hu (λ j h. turn_inside q.count u hu j (omega arith))

        -- z is of the nodes beyond v, where it is a neighbour
        widest : (m : ℕ) → 1 + m + fold plus place q.count ≤ q.count → Range m z → Range q.count ((q.value u +ℤ z) +ℤ fold sum (λ j. from_other q u v (turn q.count u j)) k)
        widest m h r =
            wider (1 + m + fold plus place k) q.count ((q.value u +ℤ z) +ℤ fold sum (λ j. from_other q u v (turn q.count u j)) k) (omega (arith, fold_first place k q.count l))
            (range_adds (1 + m) (fold plus place k) (q.value u +ℤ z) (fold sum (λ j. from_other q u v (turn q.count u j)) k) (range_adds 1 m (q.value u) z (steady.values_in u) r) known_before)

        go : (a : Bool) → adjacent q.parents v u ≡ a → Range q.count ((q.value u +ℤ z) +ℤ fold sum (λ j. from_other q u v (turn q.count u j)) k)
        go true a = widest (size q.parents q.count v u)
            (omega (
              arith,
              any_order q.count u hu ℕ plus term,
              side_law q.parents q.count steady.grown ℕ plus (λ j. 1) u v hu a,
              sizes_add q.parents q.count steady.grown u v hu hv a,
            ))
            (come.something a)
        go false a = widest 0 (omega (arith, any_order q.count u hu ℕ plus term, beyond q.parents q.count steady.grown u v hu)) (rw (come.nothing a) (nothing_in 0))

    -- what u sends to w is of u's side of their edge
    pub carried_in : (w : ℕ) → w < q.count → other q.parents u v w ≡ true → q.lease u w ≢ 0 → Range (size q.parents q.count u w) (carried sum q u v z w)
    carried_in w hw o leased =
        let near = (others q.parents u v w o).0 in
        side_in sum range_adds q steady.grown steady.values_in (λ c. cond (eqb c v) z (q.cache c u)) u w (record { near = hu; far = hw; edge = near }) (λ c hc p.
        let i = others q.parents u w c p in
        either (ℕ_discrete c v)
        (λ e. rw (eq-eqb c v e, e) (come.something (rw e at i.0)))
        (λ d. rw (ne_eqb c v d) (steady.caches_in c u hc hu (adjacent_sym q.parents u c ∙ i.0) (told_by q u w steady hu hw near leased c hc i.0 (λ e. i.1 (sym e))))))
