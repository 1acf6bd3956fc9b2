-- The total of a node is the aggregate of its side, where what is known of each neighbour is that of the neighbour's side.
use mathlib.Core.Path.{◌≡◌, sym, ap, ◌∙◌}
use mathlib.Core.Bool.{Bool, true, false}
use Prim.Native.Nat.{ℕ, zero, suc, ◌<◌}
use lib.IntN.{ℤ}
use Rattle.tree.specs.Operation.{Op, fold, pick, aggregate}
use Rattle.tree.specs.Parents.{Grown}
use Rattle.tree.specs.Sides.{adjacent, side, other}
use Rattle.tree.specs.Turns.{turn}
use Rattle.tree.proofs.Folds.{same_nodes, same_where}
use Rattle.tree.proofs.SideLaw.{side_law, whole_law}
use Rattle.tree.proofs.Turns.{any_order}
use Rattle.mechanism.specs.Views.{View}
use Rattle.mechanism.specs.Spreading.{add_if, total}
use Rattle.mechanism.proofs.Others.{all_others}
use Rattle.mechanism.proofs.Told.{Edge}

module _ (op : Op ℤ) (q : View) (grown : Grown q.parents q.count) (plain : (u : ℕ) → op.◌⊕◌ (q.value u) op.ε ≡ q.value u) where
  open op use {◌⊕◌, ε, assoc, comm}

  infixl 60 ◌⊕◌
  -- the aggregate of u's side of its edge to v
  abbrev pub held : ℕ → ℕ → ℤ
  held u v = aggregate op q.value (side q.parents u v) q.count

  -- what g says of u's first k candidates that are neighbours but w
  abbrev first : (ℕ → ℤ) → ℕ → ℕ → ℕ → ℤ
  first g u w k = fold op (λ j. pick op (other q.parents u w (turn q.count u j)) (g (turn q.count u j))) k

  total_first : (g : ℕ → ℤ) (u w k : ℕ) → total op q g u w k ≡ q.value u ⊕ first g u w k
  unfolding total
  total_first g u w zero = sym (plain u)
  total_first g u w (suc k) = one (turn q.count u k) (other q.parents u w (turn q.count u k)) (total op q g u w k) (first g u w k) (total_first g u w k)
    where
      one : (c : ℕ) (b : Bool) (t a : ℤ) → t ≡ q.value u ⊕ a → add_if op q b t (g c) ≡ q.value u ⊕ (a ⊕ pick op b (g c))
      one c true t a e = ap (λ y. y ⊕ g c) e ∙ assoc (q.value u) a (g c)
      one c false t a e = cc (plain u, comm a ε, assoc (q.value u) ε a)

  pub total_is : (g : ℕ → ℤ) (u w : ℕ) → u < q.count → total op q g u w q.count ≡ q.value u ⊕ aggregate op g (other q.parents u w) q.count
  total_is g u w hu = total_first g u w q.count ∙ ap (λ a. q.value u ⊕ a) (any_order q.count u hu ℤ op (λ c. pick op (other q.parents u w c) (g c)))

  pub total_side : (g : ℕ → ℤ) (u v : ℕ) → Edge q u v → ((c : ℕ) → c < q.count → other q.parents u v c ≡ true → g c ≡ held c u) → total op q g u v q.count ≡ held u v
  total_side g u v p h =
      total_is g u v p.near
      ∙ ap (λ a. q.value u ⊕ a) (same_where op (other q.parents u v) g (λ c. held c u) q.count h)
      ∙ sym (side_law q.parents q.count grown ℤ op q.value u v p.near p.edge)

  pub total_whole : (g : ℕ → ℤ) (x : ℕ) → x < q.count → ((c : ℕ) → c < q.count → other q.parents x x c ≡ true → g c ≡ held c x) → total op q g x x q.count ≡ fold op q.value q.count
  total_whole g x hx h =
      total_is g x x hx
      ∙ ap (λ a. q.value x ⊕ a) (same_where op (other q.parents x x) g (λ c. held c x) q.count h
      ∙ same_nodes op (other q.parents x x) (λ c. adjacent q.parents c x) (λ c. held c x) q.count (λ c l. all_others q.parents x c))
      ∙ sym (whole_law q.parents q.count grown ℤ op q.value x hx)
