-- What holds of all that the steps of a tour say holds of all that it says.
use mathlib.Core.Path.{◌≡◌, refl, ◌∙◌}
use mathlib.Core.Bool.{Bool, true, false, ◌&&◌}
use mathlib.Core.List.{List, [], ◌++◌}
use Prim.Native.Nat.{ℕ, zero, suc, ◌<◌}
use native.Mathlib.Omega.{arith}
use Rattle.tree.specs.Sides.{adjacent, other}
use Rattle.tree.specs.Turns.{turn, joined}
use Rattle.tree.specs.Kept.{when}
use Rattle.tree.specs.inner.Tours.{onward, visit, tour}
use Rattle.tree.proofs.Toward.{adjacent_sym}
use Rattle.tree.proofs.Turns.{turn_inside}
use Rattle.tree.proofs.Tours.{goes}

-- L holds of no message, of lists joined to one, and of each step that is taken
module _ {M : Type 0} (ps : List ℕ) (n : ℕ) (go : ℕ → ℕ → Bool) (before after : ℕ → ℕ → List M) (L : List M → Type 0)
    (none : L []) (both : (l r : List M) → L l → L r → L (l ++ r))
    (step : (w u : ℕ) → w < n → u < n → adjacent ps u w ≡ true → go w u ≡ true → L (before w u) × L (after w u)) where
  joined_has : (F : ℕ → List M) (k : ℕ) → ((j : ℕ) → j < k → L (F j)) → L (joined F k)
  unfolding joined
  joined_has F zero h = none
  joined_has F (suc k) h = both (joined F k) (F k) (joined_has F k (λ j l. h j (omega arith))) (h k (omega arith))

  onward_has : (u v : ℕ) → u < n → (F : ℕ → List M) → ((w : ℕ) → w < n → adjacent ps w u ≡ true → go w u ≡ true → L (F w)) → L (onward ps n go u v F)
  onward_has u v hu F h = joined_has (λ k. when (other ps u v (turn n u k) && go (turn n u k) u) (F (turn n u k))) n (λ k l.
      let w = turn n u k in
      one (other ps u v w && go w u) (F w) (λ t. let e = goes ps go u v w t in h w (turn_inside n u hu k l) e.0 e.2))
    where
      one : (b : Bool) (l : List M) → (b ≡ true → L l) → L (when b l)
      one true l p = p refl
      one false l p = none

  visit_has : (k u v : ℕ) → u < n → v < n → adjacent ps v u ≡ true → go u v ≡ true → L (visit ps n go before after k u v)
  unfolding visit
  visit_has zero u v hu hv a g = none
  visit_has (suc k) u v hu hv a g =
      let s = step u v hu hv a g in
      both (before u v) (onward ps n go u v (λ w. visit ps n go before after k w u) ++ after u v) s.0
      (both (onward ps n go u v (λ w. visit ps n go before after k w u)) (after u v) (onward_has u v hu (λ w. visit ps n go before after k w u) (λ w hw i j. visit_has k w u hw hu (adjacent_sym ps u w ∙ i) j)) s.1)

  pub tour_has : (k x : ℕ) → x < n → L (tour ps n go before after k x)
  tour_has k x hx = onward_has x x hx (λ w. visit ps n go before after k w x) (λ w hw i j. visit_has k w x hw hx (adjacent_sym ps x w ∙ i) j)
