-- What a tour weighs: at most c for each node but x, if each step weighs at most c.
use mathlib.Core.Path.{◌≡◌, refl, ap, ◌∙◌}
use mathlib.Core.Bool.{Bool, true, false, ◌&&◌}
use mathlib.Core.List.{List, [], ◌++◌}
use Prim.Native.Nat.{ℕ, zero, suc, ◌+◌, ◌*◌, ◌≤◌, ◌<◌}
use native.Mathlib.Nat.{mul-add, mul-le-mul_left}
use native.Mathlib.Omega.{arith}
use Rattle.tree.specs.Operation.{fold, pick, aggregate, plus}
use Rattle.tree.specs.Parents.{Grown}
use Rattle.tree.specs.Sides.{adjacent, other}
use Rattle.tree.specs.Sizes.{size}
use Rattle.tree.specs.Turns.{turn, joined}
use Rattle.tree.specs.Kept.{when}
use Rattle.tree.specs.inner.Tours.{onward, visit, tour}
use Rattle.tree.proofs.Toward.{adjacent_sym}
use Rattle.tree.proofs.Turns.{any_order}
use Rattle.tree.proofs.SideLaw.{side_law}
use Rattle.mechanism.proofs.Others.{others, fold_most, beyond}

-- a weight of lists that adds up where lists are joined
module _ {M : Type 0} (weight : List M → ℕ) (none : weight [] ≡ 0) (both : (l r : List M) → weight (l ++ r) ≡ weight l + weight r) where
  joined_weight : (F : ℕ → List M) (n : ℕ) → weight (joined F n) ≡ fold plus (λ j. weight (F j)) n
  unfolding joined
  joined_weight F zero = none
  joined_weight F (suc n) = both (joined F n) (F n) ∙ ap (λ k. k + weight (F n)) (joined_weight F n)

  module _ (ps : List ℕ) (n : ℕ) (grown : Grown ps n) (go : ℕ → ℕ → Bool) (before after : ℕ → ℕ → List M) (c : ℕ)
      (costs : (w u : ℕ) → weight (before w u) + weight (after w u) ≤ c) where
    onward_weight : (u v : ℕ) → u < n → (F : ℕ → List M) → ((w : ℕ) → w < n → adjacent ps w u ≡ true → weight (F w) ≤ c * size ps n w u)
        → weight (onward ps n go u v F) ≤ c * aggregate plus (λ w. size ps n w u) (other ps u v) n
    onward_weight u v hu F h =
        rw (joined_weight (λ k. when (other ps u v (turn n u k) && go (turn n u k) u) (F (turn n u k))) n, any_order n u hu ℕ plus (λ w. weight (when (other ps u v w && go w u) (F w))))
        (fold_most c (λ w. weight (when (other ps u v w && go w u) (F w))) (λ w. pick plus (other ps u v w) (size ps n w u)) n
        (λ w hw. one (other ps u v w) (go w u) w (λ o. h w hw (others ps u v w o).0)))
      where
        one : (o g : Bool) (w : ℕ) → (o ≡ true → weight (F w) ≤ c * size ps n w u) → weight (when (o && g) (F w)) ≤ c * pick plus o (size ps n w u)
        one true true w e = e refl
        one true false w e = omega (arith, none)
        one false g w e = omega (arith, none)

    visit_weight : (k u v : ℕ) → u < n → adjacent ps v u ≡ true → weight (visit ps n go before after k u v) ≤ c * size ps n u v
    unfolding visit
    visit_weight zero u v hu a = omega (arith, none)
    visit_weight (suc k) u v hu a =
        rw (both (before u v) (gap ++ after u v), both gap (after u v), side_law ps n grown ℕ plus (λ j. 1) u v hu a) (omega (
          arith,
          costs u v,
          onward_weight u v hu (λ w. visit ps n go before after k w u) (λ w hw i. visit_weight k w u hw (adjacent_sym ps u w ∙ i)),
          mul-add c 1 (aggregate plus (λ w. size ps n w u) (other ps u v) n),
        ))
      where
        gap : List M
        gap = onward ps n go u v (λ w. visit ps n go before after k w u)

    pub tour_weight : (k x : ℕ) → x < n → weight (tour ps n go before after k x) + c ≤ c * n
    tour_weight k x hx = omega (
      arith,
      onward_weight x x hx (λ w. visit ps n go before after k w x) (λ w hw i. visit_weight k w x hw (adjacent_sym ps x w ∙ i)),
      mul-le-mul_left c (beyond ps n grown x x hx),
      mul-add c 1 (aggregate plus (λ w. size ps n w x) (other ps x x) n),
    )
