-- A request as an act at a node, served in place: what the functions that do so ask for, and what they leave.
use Rattle.std.specs.Prelude.{◌≡◌, cond, List, ℕ, ◌+◌, ◌<◌, ltb, ℤ, pos, length, set}
use Rattle.tree.specs.Operation.{sum}
use Rattle.requests.specs.declared.Request.{Request}
use Rattle.requests.specs.declared.Request.TheVariants as request
use Rattle.session.specs.Holding.{Typed}
use Rattle.session.specs.Soundness.{limit, Sound}
use Rattle.session.specs.declared.Session.{Session}
use Rattle.mechanism.specs.Views.{View}
use Rattle.mechanism.specs.Combining.{Said, said, combine}
use Rattle.mechanism.specs.Spreading.{write}
use Rattle.mechanism.specs.Applying.{raised}
use Rattle.mechanism.specs.Requests.{links_of}
use Rattle.trace.specs.declared.Trace.{Trace}
use Rattle.trace.specs.inner.Traces.{pushed_all}
use Rattle.walk.specs.inner.Asking.{SumsFit}
use Rattle.walk.specs.inner.Links.{Linked}
use Rattle.walk.specs.inner.Telling.{Steady}
use Rattle.aggregate.specs.inner.Afters.{paired}
use Rattle.aggregate.specs.Told.{Outcome, Served}
use Rattle.aggregate.specs.declared.act.Act.{Act}
use Rattle.aggregate.specs.declared.act.Act.TheVariants.{Combine, Write}

-- the request of an act at x
abbrev pub request_of : ℕ → Act → Request
request_of x Combine = request.Combine x
request_of x (Write z) = request.Write x z

-- an outcome, and the session whose parts were left with it
abbrev pub served_as : Outcome → Session → Served
served_as o s = record { outcome = o; session = s }

-- a sound session, with the links of its tree
pub record Servable (s : Session) (first next : List ℕ) : Type 0 where
  pub typed : Typed s
  pub holds : Sound 2 s
  pub linked : Linked s.tree.count s.tree.parents first next

-- ---- the steps of an act

-- the refusal of a request to a sound session before its walk: 7, then 8
unfoldable pub early_refusal : ℕ → ℕ → ℕ → ℕ
early_refusal count accepted x = cond (ltb x count) (cond (ltb accepted limit) 0 8) 7

-- the values before the walk of an act: a write sets its value
abbrev pub begun : Act → ℕ → List ℤ → List ℤ
begun Combine x vs = vs
begun (Write z) x vs = set vs x z

abbrev pub begun_of : Session → ℕ → Act → Session
begun_of s x a = record { tree = s.tree; values = begun a x s.values; up = s.up; down = s.down; accepted = s.accepted }

-- the sum and the messages of the walk of an act
abbrev pub walked : Act → View → ℕ → Said
walked Combine q x = combine sum q x
walked (Write z) q x = said (pos 0) (write sum q x)

-- the walk of any act can be made from x
pub record Walkable (q : View) (first next : List ℕ) (x : ℕ) : Type 0 where
  pub inside : x < q.count
  pub fit : SumsFit q
  pub steady : Steady q
  pub linked : Linked q.count q.parents first next

-- what the walk of an act leaves: its sum, and its messages after those of t, which has room for 510
pub record Walked (a : Act) (q : View) (x : ℕ) (z : ℤ) (t t' : Trace) : Type 0 where
  pub room : length t.numbers ≡ 510
  pub sums : z ≡ (walked a q x).sum
  pub logs : t' ≡ pushed_all (walked a q x).log t

-- the session after an act: a combine raises the lease number of every pair that points to x
abbrev pub settled_of : Session → ℕ → Act → Session
settled_of s x Combine = paired s (raised s.tree.parents s.tree.count 2 x (links_of s))
settled_of s x (Write z) = s

-- the session with one more request accepted
abbrev pub counted : Session → Session
counted s = record { tree = s.tree; values = s.values; up = s.up; down = s.down; accepted = s.accepted + 1 }
