-- THE SIDE LAW, over any operation: what a side holds, from one node's neighbours.
use mathlib.Core.Path.{◌≡◌, refl, sym, ap, ◌∙◌}
use mathlib.Core.Bool.{Bool, true, not, ◌&&◌, and-true}
use mathlib.Core.Logic.{◌≢◌}
use mathlib.Core.List.{List}
use Prim.Native.Nat.{ℕ, ◌<◌}
use native.Mathlib.Decide.{ℕ_discrete}
use native.Mathlib.Omega.{arith}
use lib.Dec.{eqb}
use borrow.Author.Tests.{eq-eqb, ne_eqb}
use Rattle.tree.specs.Parents.{Grown}
use Rattle.tree.specs.Sides.{adjacent, side}
use Rattle.tree.specs.Operation.{Op, fold, pick, aggregate}
use Rattle.tree.specs.Promises.{SideLaw, WholeLaw}
use Rattle.tree.proofs.Cases.{either}
use Rattle.tree.proofs.Folds.{same, swap, alike, zeros, only, out, chosen, unchosen, same_nodes, parts, pull}
use Rattle.tree.proofs.Toward.{adjacent_ne, complementary, one_way, self, own, nested}

module _ (ps : List ℕ) (n : ℕ) (grown : Grown ps n) {A : Type 0} (op : Op A) (f : ℕ → A) where
  open op use {◌⊕◌, ε, assoc, comm, idem}

  infixl 60 ◌⊕◌
  -- the sides of those neighbours of u that pass Q hold together the nodes that pass R, if Q and R agree along each side
  pub fan : (u : ℕ) (Q R : ℕ → Bool) → u < n
      → ((w j : ℕ) → j < n → side ps w u j ≡ true → adjacent ps w u ≡ true → Q w ≡ R j)
      → aggregate op (λ w. aggregate op f (side ps w u) n) (λ w. adjacent ps w u && Q w) n ≡ aggregate op f (λ j. not (eqb j u) && R j) n
  fan u Q R hu k =
      same op (λ w. pick op (adjacent ps w u && Q w) (aggregate op f (side ps w u) n)) (λ w. fold op (term w) n) n
      (λ w l. out op (adjacent ps w u && Q w) (λ j. pick op (side ps w u j) (f j)) n)
      ∙ swap op term n n
      ∙ alike op (λ j. fold op (λ w. term w j) n) (λ j. pick op (not (eqb j u) && R j) (f j)) n (λ j h. at j h (ℕ_discrete j u))
    where
      term : ℕ → ℕ → A
      term w j = pick op (adjacent ps w u && Q w) (pick op (side ps w u j) (f j))

      at : (j : ℕ) → j < n → Dec (j ≡ u) → fold op (λ w. term w j) n ⊕ ε ≡ pick op (not (eqb j u) && R j) (f j) ⊕ ε
      at j h (yes e) = rw (eq-eqb j u e) (ap (λ a. a ⊕ ε) (zeros op (λ w. term w j) n (λ w l.
          unchosen op (side ps w u j) (adjacent ps w u) (Q w) (f j) (ap (λ i. side ps w u i && adjacent ps w u) e ∙ self ps n grown u w hu))))
      at j h (no d) = rw (ne_eqb j u d) (
          let q = one_way ps n grown u j hu h d in
          let one = only op (λ w. term w j) n q.0 q.1 (λ w l o. unchosen op (side ps w u j) (adjacent ps w u) (Q w) (f j) (q.2 w ∙ ne_eqb q.0 w (omega arith))) in
          let c = chosen op (side ps q.0 u j) (adjacent ps q.0 u) (Q q.0) (R j) (f j) (q.2 q.0 ∙ eq-eqb q.0 q.0 refl) (k q.0 j h) in
          cc (one, c, assoc (pick op (R j) (f j)) ε ε, idem))

  -- the two sides of an edge make the whole
  pub both : (u v : ℕ) → u ≢ v → aggregate op f (side ps u v) n ⊕ aggregate op f (side ps v u) n ≡ fold op f n
  both u v d =
      ap (λ a. aggregate op f (side ps u v) n ⊕ a) (same_nodes op (side ps v u) (λ j. not (side ps u v j)) f n (λ j l. complementary ps v u j (λ o. d (sym o))))
      ∙ parts op (side ps u v) f n

pub side_law : SideLaw
side_law ps n grown A op f u v hu b =
    pull op (side ps u v) f n u hu (own ps n grown u v hu b)
    ∙ ap (op.◌⊕◌ (f u)) (sym (fan ps n grown op f u (λ w. not (eqb v w)) (side ps u v) hu (λ w j h s a. either (ℕ_discrete v w)
    (λ e. rw (eq-eqb v w e, complementary ps u v j (λ o. adjacent_ne ps v u b (sym o)), e, s))
    (λ e. rw (ne_eqb v w e) (sym (nested ps n grown u w v j hu h a b (omega arith) s))))))

pub whole_law : WholeLaw
whole_law ps n grown A op f x h =
    pull op (λ j. true) f n x h refl
    ∙ ap (op.◌⊕◌ (f x)) (sym (fan ps n grown op f x (λ w. true) (λ j. true) h (λ w j l s a. refl))
    ∙ same_nodes op (λ w. adjacent ps w x && true) (λ w. adjacent ps w x) (λ w. aggregate op f (side ps w x) n) n (λ w l. and-true (adjacent ps w x)))
