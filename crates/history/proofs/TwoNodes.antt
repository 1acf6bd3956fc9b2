-- A tree of two nodes: its pairs of neighbours are (1,0) and (0,1), and each has one node on its side.
use mathlib.Core.Path.{◌≡◌, sym, ap, ◌∙◌}
use mathlib.Core.Bool.{true, false, not}
use mathlib.Core.List.{List, [], ◌++◌}
use Prim.Native.Nat.{ℕ, ◌+◌}
use native.Mathlib.Omega.{arith}
use borrow.Author.Tests.{eq-eqb}
use Rattle.tree.specs.Parents.{parent}
use Rattle.tree.specs.Sides.{adjacent, side}
use Rattle.tree.specs.Kept.{kept}
use Rattle.tree.proofs.Below.{below_self, below_root}
use Rattle.messages.specs.declared.Message.{Message}
use Rattle.session.specs.Soundness.{Sound}
use Rattle.session.specs.declared.Session.{Session}
use Rattle.mechanism.specs.Pairwise.{about, Pair}
use Rattle.mechanism.proofs.Owned.{Owned}
use Rattle.history.specs.History.{all_pairs}
use Rattle.history.proofs.Pairs.{pairs_weigh}

-- the sides: node 1 alone is on 1's, node 0 alone on 0's
pub up_root : (ps : List ℕ) → side ps 1 0 0 ≡ false
up_root ps = below_root ps 1

pub up_leaf : (ps : List ℕ) → side ps 1 0 1 ≡ true
up_leaf ps = below_self ps 1

pub down_root : (ps : List ℕ) → side ps 0 1 0 ≡ true
down_root ps = ap not (up_root ps)

pub down_leaf : (ps : List ℕ) → side ps 0 1 1 ≡ false
down_leaf ps = ap not (up_leaf ps)

-- both pairs, since the parent of node 1 is smaller
pub edge : (s : Session) → Sound 2 s → s.tree.count ≡ 2 → Pair s 1 0 × Pair s 0 1
edge s i two =
    let e : adjacent s.tree.parents 0 1 ≡ true = eq-eqb (parent s.tree.parents 1) 0 (omega (arith, i.tree_in_rule.grown 1 (omega arith) (omega arith))) in
    (record { near = omega arith; far = omega arith; edge = e }, record { near = omega arith; far = omega arith; edge = e })

-- there is no other pair
pub only_pairs : (s : Session) → Sound 2 s → s.tree.count ≡ 2 → (f : ℕ → ℕ → ℕ) → all_pairs s.tree f ≡ f 1 0 + f 0 1
only_pairs s i two f = let e = (edge s i two).0.edge in rw (two, e) (omega arith)

-- a weight of lists that adds up where lists are joined
module _ (weight : List Message → ℕ) (none : weight [] ≡ 0) (both : (l r : List Message) → weight (l ++ r) ≡ weight l + weight r) where
  -- each message is kept for one of both pairs
  pub two_nodes : (s : Session) (ms : List Message) → Owned s ms → Sound 2 s → s.tree.count ≡ 2 → weight ms ≡ weight (kept (about 1 0) ms) + weight (kept (about 0 1) ms)
  two_nodes s ms h i two = sym (pairs_weigh weight none both s ms h) ∙ only_pairs s i two (λ u v. weight (kept (about u v) ms))
