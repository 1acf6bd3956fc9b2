-- Requests one after the other: the session can be trusted to the end, and holds of each node what was last written there.
use mathlib.Core.Path.{◌≡◌, refl, sym, ap, ◌∙◌}
use mathlib.Core.List.{List, [], ◌∷◌, ◌++◌, append_assoc}
use Prim.Native.Nat.{ℕ, ◌+◌}
use native.Mathlib.Omega.{arith}
use lib.IntN.{ℤ}
use lib.ListN.{length}
use Rattle.tree.specs.Operation.{Op}
use Rattle.requests.specs.declared.Request.{Request}
use Rattle.session.specs.Holding.{value_of}
use Rattle.session.specs.declared.Session.{Session}
use Rattle.mechanism.specs.Requests.{says, after}
use Rattle.mechanism.specs.Pairwise.{Ranging}
use Rattle.mechanism.proofs.Owned.{Owned, owned_both, owned}
use Rattle.history.specs.History.{answer_of, last_written}
use Rattle.history.proofs.Succession.{Trusted, after_all, answers_to, spoken_by, AllInOrder}
use Rattle.history.proofs.Steps.{tree_after, accepted_after, owned_before, trusted_after, value_after}

module _ (op : Op ℤ) (b : ℕ) where
  -- ---- two lists of requests, one behind the other

  pub after_append : (s : Session) (l m : List Request) → after_all op b s (l ++ m) ≡ after_all op b (after_all op b s l) m
  unfolding after_all
  after_append s [] m = refl
  after_append s (r ∷ l) m = after_append (after op b s r) l m

  pub answers_append : (s : Session) (l m : List Request) → answers_to op b s (l ++ m) ≡ answers_to op b s l ++ answers_to op b (after_all op b s l) m
  unfolding after_all answers_to
  answers_append s [] m = refl
  answers_append s (r ∷ l) m = ap (λ (k : List ℤ). answer_of r (says op s r).sum ++ k) (answers_append (after op b s r) l m) ∙ sym (append_assoc (answer_of r (says op s r).sum) _ _)

  pub spoken_append : (s : Session) (l m : List Request) → spoken_by op b s (l ++ m) ≡ spoken_by op b s l ++ spoken_by op b (after_all op b s l) m
  unfolding after_all spoken_by
  spoken_append s [] m = refl
  spoken_append s (r ∷ l) m = ap (λ k. (says op s r).log ++ k) (spoken_append (after op b s r) l m) ∙ sym (append_assoc (says op s r).log _ _)

  pub in_order_append : (s : Session) (l m : List Request) → AllInOrder op b s l → AllInOrder op b (after_all op b s l) m → AllInOrder op b s (l ++ m)
  unfolding after_all
  in_order_append s [] m h k = k
  in_order_append s (r ∷ l) m (i, h) k = (i, in_order_append (after op b s r) l m h k)

  pub in_order_first : (s : Session) (l m : List Request) → AllInOrder op b s (l ++ m) → AllInOrder op b s l × AllInOrder op b (after_all op b s l) m
  unfolding after_all
  in_order_first s [] m h = (tt, h)
  in_order_first s (r ∷ l) m (i, h) = let k = in_order_first (after op b s r) l m h in ((i, k.0), k.1)

  -- ---- to the end

  pub tree_all : (s : Session) (l : List Request) → (after_all op b s l).tree ≡ s.tree
  unfolding after_all
  tree_all s [] = refl
  tree_all s (r ∷ l) = tree_all (after op b s r) l ∙ tree_after op b s r

  pub accepted_all : (s : Session) (l : List Request) → (after_all op b s l).accepted ≡ s.accepted + length l
  unfolding after_all
  accepted_all s [] = omega arith
  accepted_all s (r ∷ l) = omega (arith, accepted_all (after op b s r) l, accepted_after op b s r)

  module _ (ranging : Ranging op) where
    pub trusted_all : (s : Session) (l : List Request) → Trusted op b s → AllInOrder op b s l → Trusted op b (after_all op b s l)
    unfolding after_all
    trusted_all s [] f h = f
    trusted_all s (r ∷ l) f (i, h) = trusted_all (after op b s r) l (trusted_after op b s r f i ranging) h

    pub value_all : (s : Session) (l : List Request) → Trusted op b s → AllInOrder op b s l → (u : ℕ) → value_of (after_all op b s l) u ≡ last_written u (value_of s u) l
    unfolding after_all last_written
    value_all s [] f h u = refl
    value_all s (r ∷ l) f (i, h) u = value_all (after op b s r) l (trusted_after op b s r f i ranging) h u ∙ ap (λ z. last_written u z l) (value_after op b s r f i u)

    -- every message is of a pair of neighbours
    pub owned_all : (s : Session) (l : List Request) → Trusted op b s → AllInOrder op b s l → Owned s (spoken_by op b s l)
    unfolding spoken_by
    owned_all s [] f h = tt
    owned_all s (r ∷ l) f (i, h) =
        owned_both s (says op s r).log (spoken_by op b (after op b s r) l) (owned op b s f.holds r i.inside)
        (owned_before op b s r (spoken_by op b (after op b s r) l) (owned_all (after op b s r) l (trusted_after op b s r f i ranging) h))
