-- Requests of 32 bits at nodes of the tree are in order, one after the other, as long as the limit is not reached.
use mathlib.Core.List.{List, [], ◌∷◌}
use Prim.Native.Nat.{ℕ, ◌+◌, ◌<◌, ◌≤◌}
use native.Mathlib.Omega.{arith}
use lib.ListN.{length}
use Rattle.tree.specs.Operation.{sum}
use Rattle.requests.specs.Lists.{node_of, AllSized}
use Rattle.requests.specs.declared.Request.{Request}
use Rattle.session.specs.Soundness.{limit}
use Rattle.session.specs.declared.Session.{Session}
use Rattle.mechanism.specs.Requests.{after}
use Rattle.mechanism.proofs.Fits.{sum_written}
use Rattle.history.proofs.Succession.{AllInOrder}
use Rattle.history.proofs.Steps.{tree_after, accepted_after}

-- their nodes are below c
abbrev pub AllBelow : ℕ → List Request → Type 0
AllBelow c [] = Unit
AllBelow c (r ∷ l) = (node_of r < c) × AllBelow c l

pub in_order_few : (s : Session) (l : List Request) → AllSized l → AllBelow s.tree.count l → s.accepted + length l ≤ limit → AllInOrder sum 2 s l
in_order_few s [] sized below few = tt
in_order_few s (r ∷ l) sized below few = (
  record { inside = below.0; small = sized.0.1; plainly = sum_written r; free = omega (arith, few) },
  in_order_few (after sum 2 s r) l sized.1 (rw (tree_after sum 2 s r) below.1) (omega (arith, few, accepted_after sum 2 s r)),
)
