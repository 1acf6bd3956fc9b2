-- What u sends to its neighbour w is what it has before w and what comes after w.
use mathlib.Core.Path.{◌≡◌, refl, sym, ap, ap₂, ◌∙◌}
use mathlib.Core.Bool.{Bool, true, false, not, cond, ◌&&◌, and-true, and-false}
use mathlib.Core.Logic.{◌≢◌}
use Prim.Native.Nat.{ℕ, suc, ◌-◌, ◌<◌}
use native.Mathlib.Decide.{ℕ_discrete}
use native.Mathlib.Omega.{arith}
use lib.Dec.{eqb}
use lib.IntN.{ℤ, pos, ◌+ℤ◌, +ℤ_assoc, +ℤ_idl, +ℤ_idr}
use borrow.Author.Tests.{eq-eqb, ne_eqb}
use Rattle.tree.specs.Operation.{fold, pick, aggregate, sum}
use Rattle.tree.specs.Sides.{adjacent, side, other}
use Rattle.tree.specs.Turns.{turn}
use Rattle.tree.proofs.Cases.{either}
use Rattle.tree.proofs.Folds.{same, pull}
use Rattle.tree.proofs.Turns.{turn_inside, turn_once, any_order}
use Rattle.mechanism.specs.Views.{View}
use Rattle.mechanism.specs.Spreading.{carried}
use Rattle.mechanism.proofs.Others.{others}
use Rattle.mechanism.proofs.Aggregates.{total_is}
use Rattle.walk.specs.inner.Laters.{known_by, known, away, later}
use Rattle.walk.specs.inner.Telling.{Steady, Come, before}
use Rattle.walk.proofs.Halves.{cut, from_other, from_away, before_is, later_is}

-- what is known where there is a lease
known_is : (q : View) (c u : ℕ) → q.lease c u ≢ 0 → known q c u ≡ q.cache c u
unfolding known_by
known_is q c u d = rw (ne_eqb (q.lease c u) 0 d)

-- where u may tell w, its other neighbours have told it
pub told_by : (q : View) (u w : ℕ) → Steady q → u < q.count → w < q.count → adjacent q.parents w u ≡ true → q.lease u w ≢ 0
    → (c : ℕ) → c < q.count → adjacent q.parents c u ≡ true → c ≢ w → q.lease c u ≢ 0
told_by q u w steady hu hw near leased c hc a d e = leased (omega (arith, steady.ordered c u w hc hu hw a near d))

-- the neighbours of u that x is not beyond are those but v
away_is : (q : View) (x u v : ℕ) (z : ℤ) → Come q x u v z → (c : ℕ) → c < q.count → away q x u c ≡ other q.parents u v c
away_is q x u v z come c hc = go (adjacent q.parents c u) (come.toward c hc)
  where
    turned : eqb c v ≡ eqb v c
    turned = either (ℕ_discrete c v) (λ e. rw (eq-eqb c v e, eq-eqb v c (sym e))) (λ d. rw (ne_eqb c v d, ne_eqb v c (λ e. d (sym e))))

    go : (a : Bool) → (a ≡ true → side q.parents c u x ≡ eqb c v) → (a && not (side q.parents c u x)) ≡ (a && not (eqb v c))
    go true h = ap not (h refl ∙ turned)
    go false h = refl

module _ (q : View) (x u v : ℕ) (z : ℤ) (w k : ℕ) (steady : Steady q) (come : Come q x u v z) (hu : u < q.count) (hv : v < q.count) (hk : k < q.count)
    (at : turn q.count u k ≡ w) (o : other q.parents u v w ≡ true) (leased : q.lease u w ≢ 0) where
  hw : w < q.count
  hw = rw at at (turn_inside q.count u hu k hk)

  near : adjacent q.parents w u ≡ true
  near = (others q.parents u v w o).0

  apart : v ≢ w
  apart = (others q.parents u v w o).1

  -- what u has of its neighbour c, as `carried` has it
  abbrev has : ℕ → ℤ
  has c = cond (eqb c v) z (q.cache c u)

  -- c is a neighbour of u but v and w
  abbrev third : ℕ → Bool
  third c = other q.parents u v c && not (eqb w c)

  third_term : (c : ℕ) → c < q.count → c ≢ v → pick sum (other q.parents u w c) (has c) ≡ pick sum (third c) (known q c u)
  third_term c hc d = either (ℕ_discrete c w)
      (λ e. rw (eq-eqb w c (sym e), and-false, and-false))
      (λ f. rw (ne_eqb w c (λ e. f (sym e)), ne_eqb c v d, ne_eqb v c (λ e. d (sym e)), and-true, and-true) (go (adjacent q.parents c u) (λ a. known_is q c u (told_by q u w steady hu hw near leased c hc a f))))
    where
      go : (a : Bool) → (a ≡ true → known q c u ≡ q.cache c u) → pick sum a (q.cache c u) ≡ pick sum a (known q c u)
      go true h = sym (h refl)
      go false h = refl

  -- what it was told by v is z, or v is no neighbour and z is nothing
  gathered : aggregate sum has (other q.parents u w) q.count ≡ z +ℤ aggregate sum (λ c. known q c u) third q.count
  gathered = go (adjacent q.parents v u) refl
    where
      told : has v ≡ z
      told = rw (eq-eqb v v refl)

      back : (c : ℕ) → c ≡ v → third c ≡ false
      back c e = rw (eq-eqb v c (sym e), and-false)

      go : (a : Bool) → adjacent q.parents v u ≡ a → aggregate sum has (other q.parents u w) q.count ≡ z +ℤ aggregate sum (λ c. known q c u) third q.count
      go true a =
          pull sum (other q.parents u w) has q.count v hv (rw (a, ne_eqb w v (λ e. apart (sym e))))
          ∙ ap₂ ◌+ℤ◌ told (same sum (λ c. pick sum (not (eqb c v) && other q.parents u w c) (has c)) (λ c. pick sum (third c) (known q c u)) q.count
          (λ c hc. either (ℕ_discrete c v)
          (λ e. rw (back c e, eq-eqb c v e))
          (λ d. ap (λ b. pick sum (not b && other q.parents u w c) (has c)) (ne_eqb c v d) ∙ third_term c hc d)))
      go false a =
          same sum (λ c. pick sum (other q.parents u w c) (has c)) (λ c. pick sum (third c) (known q c u)) q.count
          (λ c hc. either (ℕ_discrete c v)
          (λ e. rw (back c e, e, a))
          (third_term c hc))
          ∙ sym (ap (λ y. y +ℤ aggregate sum (λ c. known q c u) third q.count) (come.nothing a) ∙ +ℤ_idl (aggregate sum (λ c. known q c u) third q.count))

  -- the place of w is empty, those below it are before, those above it are after
  parted : aggregate sum (λ c. known q c u) third q.count ≡ fold sum (λ j. from_other q u v (turn q.count u j)) k +ℤ later q x u (q.count - suc k)
  parted =
      let m = q.count - suc k in
      let e : q.count - m ≡ suc k = omega arith in
      sym (any_order q.count u hu ℤ sum term)
      ∙ rw e at (cut sum +ℤ_idr (λ j. term (turn q.count u j)) q.count m (omega arith))
      ∙ ap₂ ◌+ℤ◌ (ap₂ ◌+ℤ◌ low empty ∙ +ℤ_idr (fold sum (λ j. from_other q u v (turn q.count u j)) k)) (high ∙ sym (later_is q x u m))
    where
      term : ℕ → ℤ
      term c = pick sum (third c) (known q c u)

      empty : term (turn q.count u k) ≡ pos 0
      empty = rw (at, eq-eqb w w refl, and-false)

      other_place : (j : ℕ) → j < q.count → j ≢ k → term (turn q.count u j) ≡ from_other q u v (turn q.count u j)
      other_place j hj d = rw (ne_eqb w (turn q.count u j) (λ e. d (turn_once q.count u hu j k hj hk (sym e ∙ sym at))), and-true)

      low : fold sum (λ j. term (turn q.count u j)) k ≡ fold sum (λ j. from_other q u v (turn q.count u j)) k
      low = same sum (λ j. term (turn q.count u j)) (λ j. from_other q u v (turn q.count u j)) k (λ j l. other_place j (omega arith) (omega arith))

      high : fold sum (λ i. term (turn q.count u (q.count - suc i))) (q.count - suc k) ≡ fold sum (λ i. from_away q x u (turn q.count u (q.count - suc i))) (q.count - suc k)
      high =
          same sum (λ i. term (turn q.count u (q.count - suc i))) (λ i. from_away q x u (turn q.count u (q.count - suc i))) (q.count - suc k)
          (λ i l. other_place (q.count - suc i) (omega arith) (omega arith)
          ∙ ap (λ b. pick sum b (known q (turn q.count u (q.count - suc i)) u)) (sym (away_is q x u v z come (turn q.count u (q.count - suc i)) (turn_inside q.count u hu (q.count - suc i) (omega arith)))))

  pub split : carried sum q u v z w ≡ before q u v z k +ℤ later q x u (q.count - suc k)
  split =
      total_is sum q steady.grown (λ c. +ℤ_idr (q.value c)) has u w hu
      ∙ ap (λ y. q.value u +ℤ y) (gathered ∙ ap (λ y. z +ℤ y) parted)
      ∙ gather (q.value u) z (fold sum (λ j. from_other q u v (turn q.count u j)) k) (later q x u (q.count - suc k))
      ∙ ap (λ y. y +ℤ later q x u (q.count - suc k)) (sym (before_is q u v z k))
    where
      gather : (a b c d : ℤ) → a +ℤ (b +ℤ (c +ℤ d)) ≡ ((a +ℤ b) +ℤ c) +ℤ d
      gather a b c d = sym (+ℤ_assoc (a +ℤ b) c d ∙ +ℤ_assoc a b (c +ℤ d))
