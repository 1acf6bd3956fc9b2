-- The words of demand 3: what a history of calls is, and what is said of it. Start reading here.
use Rattle.std.specs.Prelude.{◌≡◌, true, cond, ◌≢◌, List, [], ◌∷◌, ◌++◌, ℕ, zero, suc, ◌+◌, ◌*◌, ◌≤◌, ◌<◌, eqb, ℤ, pos, length, take}
use Rattle.fields.specs.Usable.{usable_bits}
use Rattle.twos.specs.Twos.{within}
use Rattle.tree.specs.Operation.{fold, aggregate, plus, sum}
use Rattle.tree.specs.Sides.{adjacent, side}
use Rattle.tree.specs.Kept.{when}
use Rattle.tree.specs.declared.Tree.{Tree}
use Rattle.rule.specs.Pair.{own}
use Rattle.rule.specs.Pair as pair
use Rattle.messages.specs.Reading.{messages_from}
use Rattle.messages.specs.declared.Message.{Message}
use Rattle.requests.specs.Lists.{node_of, list_of}
use Rattle.requests.specs.Reading.{requests_of}
use Rattle.requests.specs.declared.Request.{Request}
use Rattle.requests.specs.declared.Request.TheVariants.{Combine, Write}
use Rattle.session.specs.Holding.{Typed}
use Rattle.session.specs.Soundness.{Sound}
use Rattle.session.specs.Starting.{started_of, loaded_of}
use Rattle.session.specs.declared.Session.{Session}
use Rattle.mechanism.specs.Requests.{kind_of}
use Rattle.mechanism.specs.Pairwise.{Right}
use Rattle.aggregate.specs.Serving.{served_of, log_of}
use Rattle.aggregate.specs.Running.{list_refusal, ran_of, answers_of, run_log_of}
use Rattle.aggregate.specs.Told.{Served, Ran}

-- ---- calls

-- A call of `combine`, `write` or `run`, with all that it is handed besides the session. A value has 32 bits, as its type says.
pub data Call : Type 0 where
  combine : (x : ℕ) (log : List ℕ) (place : ℕ) → Call
  write : (x : ℕ) (value : ℤ) → within 32 value ≡ true → (log : List ℕ) (place : ℕ) → Call
  run : (list : List ℕ) (answers : List ℤ) (log : List ℕ) (place : ℕ) → Call

-- What comes of a call: all that it returns and leaves, and what it accepted.
pub record Result : Type 0 where
  -- what the call answers: the number of a refusal or 0, its messages, and the next log place
  pub refusal : ℕ
  pub messages : ℕ
  pub next : ℕ
  -- the answer of a combine or a write; 0 for a list
  pub answer : ℤ
  -- the index of the request of a list that was refused, how many requests were done, and how many answers were stored; 0 for a combine or a write
  pub index : ℕ
  pub requests : ℕ
  pub stored : ℕ
  -- the requests that the call accepted, in order, and the answers of the combines among them
  pub accepted : List Request
  pub answers : List ℤ
  -- the session that the call returns, and what it leaves in the answer places and the log that it was lent
  pub session : Session
  pub places : List ℤ
  pub log : List ℕ

-- the answers of a request: a combine has one, a write none
abbrev pub answer_of : Request → ℤ → List ℤ
answer_of (Combine x) z = z ∷ []
answer_of (Write x y) z = []

-- What comes of a call that makes a request: the request is accepted where it answers 0, and is lent no answer places.
abbrev pub of_request : Request → Served → List ℕ → Result
of_request r d log =
    record {
      refusal = d.outcome.refusal;
      messages = d.outcome.messages;
      next = d.outcome.next;
      answer = d.outcome.answer;
      index = 0;
      requests = 0;
      stored = 0;
      accepted = when (eqb d.outcome.refusal 0) (r ∷ []);
      answers = when (eqb d.outcome.refusal 0) (answer_of r d.outcome.answer);
      session = d.session;
      places = [];
      log = log;
    }

-- What comes of a call that runs a list: the requests that were done are its first ones, and their answers stand in the first answer places.
abbrev pub of_list : List ℕ → Ran → List ℤ → List ℕ → Result
of_list list d places log =
    record {
      refusal = d.refusal;
      messages = d.totals.messages;
      next = d.totals.next;
      answer = pos 0;
      index = d.index;
      requests = d.totals.requests;
      stored = d.totals.answers;
      accepted = take d.totals.requests (requests_of list);
      answers = take d.totals.answers places;
      session = d.session;
      places = places;
      log = log;
    }

-- What comes of a call to the session s, as the contract of the function says.
unfoldable pub result : Session → Call → Result
result s (combine x log place) = of_request (Combine x) (served_of s (Combine x) (length log) place) (log_of s (Combine x) log place)
result s (write x value small log place) = of_request (Write x value) (served_of s (Write x value) (length log) place) (log_of s (Write x value) log place)
result s (run list answers log place) = of_list list (ran_of s list answers log place) (answers_of s list answers log place) (run_log_of s list answers log place)

-- the log place that a call is handed, and the answer places and the log that it is lent
abbrev pub from_place : Call → ℕ
from_place (combine x log place) = place
from_place (write x value small log place) = place
from_place (run list answers log place) = place

abbrev pub lent_places : Call → List ℤ
lent_places (combine x log place) = []
lent_places (write x value small log place) = []
lent_places (run list answers log place) = answers

abbrev pub lent_log : Call → List ℕ
lent_log (combine x log place) = log
lent_log (write x value small log place) = log
lent_log (run list answers log place) = log

-- A refused call: a combine or a write that answers a number, a list that is refused as a whole. It returns its number with zeros, and the session and all that was lent as they were.
abbrev pub Refused : Session → Call → Type 0
Refused s (combine x log place) = 0 < (served_of s (Combine x) (length log) place).outcome.refusal
Refused s (write x value small log place) = 0 < (served_of s (Write x value) (length log) place).outcome.refusal
Refused s (run list answers log place) = 0 < list_refusal s list (length answers)

abbrev pub refused_with : ℕ → Session → List ℤ → List ℕ → Result
refused_with n s places log =
    record { refusal = n; messages = 0; next = 0; answer = pos 0; index = 0; requests = 0; stored = 0; accepted = []; answers = []; session = s; places = places; log = log }

-- the messages that a call logged: those that stand in the log from its place to the next one
abbrev pub logged_by : Session → Call → List Message
logged_by s c = messages_from (result s c).next (result s c).log (from_place c) (result s c).next

-- ---- histories

-- A history from a session on: calls in their order, in any mixture, accepted or refused, each handed the session that the last one returned.
abbrev pub History : Type 0
History = List Call

-- the session that the last call of a history returned
unfoldable pub session_after : Session → History → Session
session_after o [] = o
session_after o (c ∷ h) = session_after (result o c).session h

-- what the calls of a history give, one after the other
unfoldable pub gathered : {A : Type 0} → (Session → Call → List A) → Session → History → List A
gathered give o [] = []
gathered give o (c ∷ h) = give o c ++ gathered give (result o c).session h

-- the accepted requests of a history, the answers of the combines among them, and the messages that were logged
abbrev pub accepted_in : Session → History → List Request
accepted_in = gathered (λ s c. (result s c).accepted)

abbrev pub answers_in : Session → History → List ℤ
answers_in = gathered (λ s c. (result s c).answers)

abbrev pub logged_in : Session → History → List Message
logged_in = gathered logged_by

-- ---- where a history starts

-- A fresh session: as `Session::load` returns it for an accepted table, whatever session it was handed, or `Session::fresh` for a tree.
pub data Fresh : Session → Type 0 where
  loaded : (s : Session) (bytes : List ℕ) → (loaded_of s bytes).refusal ≡ 0 → Fresh (loaded_of s bytes).session
  started : (t : Tree) → length t.parents ≡ 256 → (started_of t).refusal ≡ 0 → Fresh (started_of t).session

-- A good session: it is sound, and each leased cache is the sum of its side. Fresh ones are good; so is all that comes of a good one.
pub record Good (o : Session) : Type 0 where
  pub typed : Typed o
  pub holds : Sound 2 o
  pub right : Right sum o

-- ---- what is said of a history

-- what node u holds after a request, if it held z
abbrev pub held_after : ℕ → ℤ → Request → ℤ
held_after u z (Combine x) = z
held_after u z (Write x y) = cond (eqb x u) y z

-- the value last written at node u by these requests, z where there is none
unfoldable pub last_written : ℕ → ℤ → List Request → ℤ
last_written u z [] = z
last_written u z (r ∷ l) = last_written u (held_after u z r) l

-- none of these requests is a write at u
abbrev pub NoWrite : ℕ → List Request → Type 0
NoWrite u [] = Unit
NoWrite u (Combine x ∷ l) = NoWrite u l
NoWrite u (Write x y ∷ l) = (x ≢ u) × NoWrite u l

-- the pair's own list: of these requests the combines on v's side and the writes on u's side, in order
abbrev pub own_of : Tree → ℕ → ℕ → List Request → List pair.Request
own_of t u v = own kind_of (λ r. side t.parents u v (node_of r))

-- f of all ordered pairs of neighbours, added up
abbrev pub all_pairs : Tree → (ℕ → ℕ → ℕ) → ℕ
all_pairs t f = fold plus (λ u. aggregate plus (f u) (λ v. adjacent t.parents v u) t.count) t.count

-- ---- the rounds on two nodes

-- n rounds, whatever is written: combine at 0, write at 1, write at 1
unfoldable pub rounds_of : (ℕ → ℤ) → (ℕ → ℤ) → ℕ → List Request
rounds_of y z zero = []
rounds_of y z (suc n) = Combine 0 ∷ Write 1 (y n) ∷ Write 1 (z n) ∷ rounds_of y z n

-- A call that runs the list of n rounds, with n answer places and room for all records: probe and response, update, update and release have 210 bits.
pub data RunsRounds (n : ℕ) : Call → Type 0 where
  runs_rounds : (y z : ℕ → ℤ) → ((k : ℕ) → (within 32 (y k) ≡ true) × (within 32 (z k) ≡ true)) → (answers : List ℤ) (log : List ℕ) (place : ℕ) → n ≤ length answers
      → place + 210 * n ≤ usable_bits (length log) → RunsRounds n (run (list_of (rounds_of y z n)) answers log place)
