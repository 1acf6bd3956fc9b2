-- The order of candidates: each has one turn, so neither a fold nor what is kept of a round depends on the order.
use mathlib.Core.Path.{◌≡◌, refl, sym, ap, ◌∙◌}
use mathlib.Core.Bool.{Bool}
use mathlib.Core.Logic.{◌≢◌}
use mathlib.Core.List.{List, []}
use Prim.Native.Nat.{ℕ, ◌<◌}
use native.Mathlib.Omega.{arith}
use lib.Dec.{eqb}
use borrow.Author.Tests.{eq-eqb, ne_eqb}
use Rattle.tree.specs.Operation.{fold, pick}
use Rattle.tree.specs.Turns.{turn, round}
use Rattle.tree.specs.Kept.{kept}
use Rattle.tree.specs.Promises.{AnyOrder}
use Rattle.tree.proofs.Folds.{swap, alike, only}
use Rattle.tree.proofs.Lists.{joined_same, joined_none, joined_one, kept_joined}

module _ (n u : ℕ) (hu : u < n) where
  pub turn_inside : (k : ℕ) → k < n → turn n u k < n
  unfolding turn
  turn_inside k h = omega arith

  pub turn_once : (j k : ℕ) → j < n → k < n → turn n u j ≡ turn n u k → j ≡ k
  unfolding turn
  turn_once j k hj hk e = omega arith

  turn_place : (w : ℕ) → w < n → (k : ℕ) × (k < n) × (turn n u k ≡ w)
  unfolding turn
  turn_place w h = (w, h, refl)

  -- all that follows goes by these three alone

  module _ {M : Type 0} where
    pub round_same : (F G : ℕ → List M) → ((w : ℕ) → w < n → F w ≡ G w) → round n u F ≡ round n u G
    round_same F G h = joined_same (λ k. F (turn n u k)) (λ k. G (turn n u k)) n (λ k l. h (turn n u k) (turn_inside k l))

    pub round_none : (F : ℕ → List M) → ((w : ℕ) → w < n → F w ≡ []) → round n u F ≡ []
    round_none F h = joined_none (λ k. F (turn n u k)) n (λ k l. h (turn n u k) (turn_inside k l))

    pub round_one : (F : ℕ → List M) (w : ℕ) → w < n → ((c : ℕ) → c < n → c ≢ w → F c ≡ []) → round n u F ≡ F w
    round_one F w hw h =
        let q = turn_place w hw in
        joined_one (λ k. F (turn n u k)) n q.0 q.1 (λ k l d. h (turn n u k) (turn_inside k l) (λ o. d (turn_once k q.0 l q.1 (o ∙ sym q.2)))) ∙ ap F q.2

    pub kept_round : (test : M → Bool) (F : ℕ → List M) → kept test (round n u F) ≡ round n u (λ w. kept test (F w))
    kept_round test F = kept_joined test (λ k. F (turn n u k)) n

-- each candidate's term is the sum of that term over all places that have its turn, and there is one
pub any_order : AnyOrder
any_order n u hu A op g =
    alike op (λ k. g (turn n u k)) (λ k. fold op (λ w. term k w) n) n
    (λ k h. ap (λ a. op.◌⊕◌ a op.ε) (sym (at (turn n u k))) ∙ twice (term k (turn n u k))
    ∙ ap (λ a. op.◌⊕◌ a op.ε) (sym (only op (term k) n (turn n u k) (turn_inside n u hu k h) (λ w l d. rw (ne_eqb (turn n u k) w (λ o. d (sym o)))))))
    ∙ swap op term n n
    ∙ alike op (λ w. fold op (λ k. term k w) n) g n (λ w h. let q = turn_place n u hu w h in
    ap (λ a. op.◌⊕◌ a op.ε) (only op (λ k. term k w) n q.0 q.1 (λ k l d. rw (ne_eqb (turn n u k) w (λ o. d (turn_once n u hu k q.0 l q.1 (o ∙ sym q.2))))))
    ∙ sym (twice (term q.0 w)) ∙ rw (eq-eqb (turn n u q.0) w q.2))
  where
    term : ℕ → ℕ → A
    term k w = pick op (eqb (turn n u k) w) (g w)

    at : (w : ℕ) → pick op (eqb w w) (g w) ≡ g w
    at w = rw (eq-eqb w w refl)

    twice : (a : A) → op.◌⊕◌ a op.ε ≡ op.◌⊕◌ (op.◌⊕◌ a op.ε) op.ε
    twice a = sym (op.assoc a op.ε op.ε ∙ ap (op.◌⊕◌ a) op.idem)
