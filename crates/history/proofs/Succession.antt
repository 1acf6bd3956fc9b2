-- Requests one after the other, over any operation and break count: the session after them, what they answer and what they say.
use mathlib.Core.List.{List, [], ◌∷◌, ◌++◌}
use Prim.Native.Nat.{ℕ, ◌<◌}
use lib.IntN.{ℤ}
use Rattle.tree.specs.Operation.{Op}
use Rattle.messages.specs.declared.Message.{Message}
use Rattle.requests.specs.declared.Request.{Request}
use Rattle.session.specs.Holding.{Typed}
use Rattle.session.specs.Soundness.{limit, Sound}
use Rattle.session.specs.declared.Session.{Session}
use Rattle.requests.specs.Lists.{node_of, Small}
use Rattle.mechanism.specs.Requests.{says, after}
use Rattle.mechanism.specs.Pairwise.{Right, Plain, PlainlyWritten}
use Rattle.history.specs.History.{answer_of}

-- a request that is in order: its node is in the tree, its value has 32 bits and is one that the operation's ε does not change, and the limit is not reached
pub record InOrder (op : Op ℤ) (s : Session) (r : Request) : Type 0 where
  pub inside : node_of r < s.tree.count
  pub small : Small r
  pub plainly : PlainlyWritten op r
  pub free : s.accepted < limit

-- a session that can be trusted: it is sound, its values are such too, and each leased cache is the aggregate of its side
pub record Trusted (op : Op ℤ) (b : ℕ) (s : Session) : Type 0 where
  pub typed : Typed s
  pub holds : Sound b s
  pub plain : Plain op s
  pub right : Right op s

module _ (op : Op ℤ) (b : ℕ) where
  unfoldable pub after_all : Session → List Request → Session
  after_all s [] = s
  after_all s (r ∷ l) = after_all (after op b s r) l

  unfoldable pub answers_to : Session → List Request → List ℤ
  answers_to s [] = []
  answers_to s (r ∷ l) = answer_of r (says op s r).sum ++ answers_to (after op b s r) l

  unfoldable pub spoken_by : Session → List Request → List Message
  spoken_by s [] = []
  spoken_by s (r ∷ l) = (says op s r).log ++ spoken_by (after op b s r) l

  -- each is in order when its turn comes
  abbrev pub AllInOrder : Session → List Request → Type 0
  AllInOrder s [] = Unit
  AllInOrder s (r ∷ l) = InOrder op s r × AllInOrder (after op b s r) l
