-- Requests one after the other: each combine answers the aggregate of what was last written at every node.
use mathlib.Core.Path.{◌≡◌, refl, ap, ◌∙◌}
use mathlib.Core.List.{List, [], ◌∷◌, ◌++◌}
use Prim.Native.Nat.{ℕ}
use native.Mathlib.Omega.{arith}
use lib.IntN.{ℤ, pos}
use lib.ListN.{length, get_or, length-append}
use lib.Seq.{get_or-append_seam}
use Rattle.tree.specs.Operation.{Op, fold}
use Rattle.tree.specs.declared.Tree.{Tree}
use Rattle.tree.proofs.Folds.{same}
use Rattle.requests.specs.Lists.{one_if_combine, combines_in}
use Rattle.requests.specs.declared.Request.{Request}
use Rattle.requests.specs.declared.Request.TheVariants.{Combine, Write}
use Rattle.session.specs.Holding.{value_of}
use Rattle.session.specs.declared.Session.{Session}
use Rattle.mechanism.specs.Requests.{says, after}
use Rattle.mechanism.specs.Pairwise.{Ranging}
use Rattle.mechanism.proofs.Sums.{answer_right}
use Rattle.history.specs.History.{answer_of, last_written}
use Rattle.history.proofs.Succession.{Trusted, after_all, answers_to, AllInOrder}
use Rattle.history.proofs.Throughout.{answers_append, in_order_first, tree_all, trusted_all, value_all}

-- a combine has one answer, a write none
one_answer : (r : Request) (z : ℤ) → length (answer_of r z) ≡ one_if_combine r
one_answer (Combine x) z = refl
one_answer (Write x y) z = refl

module _ (op : Op ℤ) (b : ℕ) where
  pub answers_length : (s : Session) (l : List Request) → length (answers_to op b s l) ≡ combines_in l
  unfolding answers_to combines_in
  answers_length s [] = refl
  answers_length s (r ∷ l) = omega (arith, length-append (answer_of r (says op s r).sum) (answers_to op b (after op b s r) l), one_answer r (says op s r).sum, answers_length (after op b s r) l)

  -- the answer of a combine stands behind those of the combines before it
  answer_there : (s : Session) (earlier later : List Request) (x : ℕ)
      → get_or (answers_to op b s (earlier ++ (Combine x ∷ later))) (combines_in earlier) (pos 0) ≡ (says op (after_all op b s earlier) (Combine x)).sum
  unfolding answers_to
  answer_there s earlier later x =
      rw (answers_append op b s earlier (Combine x ∷ later), ← answers_length s earlier)
      (get_or-append_seam (answers_to op b s earlier) (says op (after_all op b s earlier) (Combine x)).sum (answers_to op b (after op b (after_all op b s earlier) (Combine x)) later) (pos 0))

  pub answer_sums : Ranging op → (s : Session) (earlier later : List Request) (x : ℕ) → Trusted op b s → AllInOrder op b s (earlier ++ (Combine x ∷ later))
      → get_or (answers_to op b s (earlier ++ (Combine x ∷ later))) (combines_in earlier) (pos 0) ≡ fold op (λ u. last_written u (value_of s u) earlier) s.tree.count
  answer_sums ranging s earlier later x f h =
      let k = in_order_first op b s earlier (Combine x ∷ later) h in
      let g = trusted_all op b ranging s earlier f k.0 in
      answer_there s earlier later x
      ∙ answer_right op b (after_all op b s earlier) g.holds g.plain g.right x k.1.0.inside
      ∙ same op (value_of (after_all op b s earlier)) (λ u. last_written u (value_of s u) earlier) (after_all op b s earlier).tree.count (λ u l. value_all op b ranging s earlier f k.0 u)
      ∙ ap (λ (t : Tree). fold op (λ u. last_written u (value_of s u) earlier) t.count) (tree_all op b s earlier)
