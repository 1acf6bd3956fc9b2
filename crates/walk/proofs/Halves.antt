-- A fold cut in two at a place, and what stands before and after a place as folds.
use mathlib.Core.Path.{◌≡◌, refl, sym, ap, ◌∙◌}
use mathlib.Core.Bool.{Bool, true, false}
use Prim.Native.Nat.{ℕ, zero, suc, ◌-◌, ◌≤◌}
use native.Mathlib.Omega.{arith}
use lib.IntN.{ℤ, ◌+ℤ◌, +ℤ_assoc, +ℤ_idr}
use Rattle.tree.specs.Operation.{Op, fold, pick, sum}
use Rattle.tree.specs.Sides.{other}
use Rattle.tree.specs.Turns.{turn}
use Rattle.mechanism.specs.Views.{View}
use Rattle.mechanism.specs.Spreading.{add_if}
use Rattle.walk.specs.inner.Laters.{known, away, later}
use Rattle.walk.specs.inner.Telling.{before}

module _ {A : Type 0} (op : Op A) (unit : (a : A) → op.◌⊕◌ a op.ε ≡ a) where
  open op use {◌⊕◌, ε, assoc, comm}

  infixl 60 ◌⊕◌
  -- all but the last m terms, and these from the end on
  pub cut : (f : ℕ → A) (n m : ℕ) → m ≤ n → fold op f n ≡ fold op f (n - m) ⊕ fold op (λ i. f (n - suc i)) m
  cut f n zero l = let e : n - 0 ≡ n = omega arith in rw e (sym (unit (fold op f n)))
  cut f n (suc m) l =
      let e : n - m ≡ suc (n - suc m) = omega arith in
      rw e at (cut f n m (omega arith))
      ∙ step (fold op f (n - suc m)) (f (n - suc m)) (fold op (λ i. f (n - suc i)) m)
    where
      step : (a b c : A) → (a ⊕ b) ⊕ c ≡ a ⊕ (c ⊕ b)
      step a b c = assoc a b c ∙ ap (λ y. a ⊕ y) (comm b c)

module _ (q : View) where
  -- what u knows of its candidate c, where that is a neighbour but v; and where it is a neighbour that x is not beyond
  abbrev pub from_other : ℕ → ℕ → ℕ → ℤ
  from_other u v c = pick sum (other q.parents u v c) (known q c u)

  abbrev pub from_away : ℕ → ℕ → ℕ → ℤ
  from_away x u c = pick sum (away q x u c) (known q c u)

  pub before_is : (u v : ℕ) (z : ℤ) (k : ℕ) → before q u v z k ≡ (q.value u +ℤ z) +ℤ fold sum (λ j. from_other u v (turn q.count u j)) k
  unfolding before
  before_is u v z zero = sym (+ℤ_idr (q.value u +ℤ z))
  before_is u v z (suc k) =
      let c = turn q.count u k in
      one (other q.parents u v c) (before q u v z k) (q.value u +ℤ z) (fold sum (λ j. from_other u v (turn q.count u j)) k) (known q c u) (before_is u v z k)
    where
      one : (b : Bool) (t a f h : ℤ) → t ≡ a +ℤ f → add_if sum q b t h ≡ a +ℤ (f +ℤ pick sum b h)
      one true t a f h e = ap (λ y. y +ℤ h) e ∙ +ℤ_assoc a f h
      one false t a f h e = rw (+ℤ_idr f) e

  pub later_is : (x u m : ℕ) → later q x u m ≡ fold sum (λ i. from_away x u (turn q.count u (q.count - suc i))) m
  unfolding later
  later_is x u zero = refl
  later_is x u (suc m) =
      let c = turn q.count u (q.count - suc m) in
      one (away q x u c) (later q x u m) (fold sum (λ i. from_away x u (turn q.count u (q.count - suc i))) m) (known q c u) (later_is x u m)
    where
      one : (b : Bool) (t f h : ℤ) → t ≡ f → add_if sum q b t h ≡ f +ℤ pick sum b h
      one true t f h e = ap (λ y. y +ℤ h) e
      one false t f h e = rw (+ℤ_idr f) e
