-- What is promised of the two requests, and of running a list. The theorem that proves a statement bears its name in small letters.
use Rattle.std.specs.Prelude.{◌≡◌, ◌≢◌, ◌⊎◌, ◌↔◌, List, [], ℕ, ◌+◌, ◌≤◌, ◌<◌, ℤ, pos, length, take, get_or}
use Rattle.fields.specs.Bits.{bit}
use Rattle.fields.specs.Usable.{usable_bits}
use Rattle.tree.specs.Operation.{sum}
use Rattle.messages.specs.Reading.{Reads, messages_from}
use Rattle.requests.specs.Lists.{node_of, Small, combines_in}
use Rattle.requests.specs.Reading.{requests_of, judged_of}
use Rattle.requests.specs.declared.Request.{Request}
use Rattle.session.specs.Holding.{Typed}
use Rattle.session.specs.Soundness.{Sound}
use Rattle.session.specs.declared.Session.{Session}
use Rattle.mechanism.specs.Requests.{says}
use Rattle.mechanism.specs.Refusals.{Ruled}
use Rattle.aggregate.specs.Serving.{refused, served_of, log_of}
use Rattle.aggregate.specs.Running.{running, start, ended_as, list_refusal, ran_of, answers_of, run_log_of, earlier_of, Whole, Serves, OfWhole, OfStop, spoken_of}
use Rattle.aggregate.specs.Running.{refused as refused_list}

-- A request is refused exactly as document 01 says.
abbrev pub RefusedExactly : Type 0
RefusedExactly = (s : Session) (r : Request) (len place n : ℕ) → ((served_of s r len place).outcome.refusal ≡ n) ↔ Ruled 2 s (node_of r) len place (says sum s r).log n

-- A request that is refused answers its number with zeros, and the session and the log stay as they were.
abbrev pub RefusedKept : Type 0
RefusedKept = (s : Session) (r : Request) (log : List ℕ) (place : ℕ) → 0 < (served_of s r (length log) place).outcome.refusal
    → (served_of s r (length log) place ≡ refused (served_of s r (length log) place).outcome.refusal s) × (log_of s r log place ≡ log)

-- A request is never refused with 11.
abbrev pub NeverEleven : Type 0
NeverEleven = (s : Session) (r : Request) (len place : ℕ) → Typed s → Small r → (served_of s r len place).outcome.refusal ≢ 11

-- Where there are 19,380 usable bits from the place on, no request is refused with 9.
abbrev pub RoomEnough : Type 0
RoomEnough = (s : Session) (r : Request) (len place : ℕ) → place + 19380 ≤ usable_bits len → (served_of s r len place).outcome.refusal ≢ 9

-- The log of an accepted request reads back as its messages, to the next place, and the messages it answers are those records.
abbrev pub LoggedExactly : Type 0
LoggedExactly = (s : Session) (r : Request) (log : List ℕ) (place : ℕ) → Typed s → Small r → (served_of s r (length log) place).outcome.refusal ≡ 0
    → Reads (log_of s r log place) place (served_of s r (length log) place).outcome.next (says sum s r).log
    × ((served_of s r (length log) place).outcome.messages ≡ length (says sum s r).log)
    × ((served_of s r (length log) place).outcome.messages ≡ length (messages_from (served_of s r (length log) place).outcome.next (log_of s r log place) place (served_of s r (length log) place).outcome.next))

-- In the log of a request the bits before its place and after its last record keep their values, and the log its length.
abbrev pub RequestOutsideKept : Type 0
RequestOutsideKept = (s : Session) (r : Request) (log : List ℕ) (place k : ℕ) → (k < place) ⊎ ((served_of s r (length log) place).outcome.next ≤ k) → bit (log_of s r log place) k ≡ bit log k

abbrev pub RequestLengthKept : Type 0
RequestLengthKept = (s : Session) (r : Request) (log : List ℕ) (place : ℕ) → length (log_of s r log place) ≡ length log

-- A request logs at most 510 messages of 19,380 bits.
abbrev pub AtMost510 : Type 0
AtMost510 = (s : Session) (r : Request) (len place : ℕ) → ((served_of s r len place).outcome.messages ≤ 510) × ((served_of s r len place).outcome.next ≤ place + 19380)

-- A sound session stays sound, whether a request is accepted or refused.
abbrev pub SessionsSound : Type 0
SessionsSound = (s : Session) (r : Request) (len place : ℕ) → Typed s → Sound 2 s → Small r → Typed (served_of s r len place).session × Sound 2 (served_of s r len place).session

-- ---- running a list

-- A list is refused as a whole exactly as document 01 says.
abbrev pub WholeExactly : Type 0
WholeExactly = (s : Session) (list : List ℕ) (places n : ℕ) → (list_refusal s list places ≡ n) ↔ Whole s list places n

-- A list that is refused as a whole answers its number with zeros, and the session, the answer places and the log stay as they were.
abbrev pub WholeKept : Type 0
WholeKept = (s : Session) (list : List ℕ) (answers : List ℤ) (log : List ℕ) (place : ℕ) → 0 < list_refusal s list (length answers)
    → (ran_of s list answers log place ≡ refused_list (list_refusal s list (length answers)) s) × (answers_of s list answers log place ≡ answers) × (run_log_of s list answers log place ≡ log)

-- The requests of a list that is not refused as a whole are served one by one, as combine and write serve them, up to the first that is refused.
abbrev pub OneByOne : Type 0
OneByOne = (s : Session) (list : List ℕ) (answers : List ℤ) (log : List ℕ) (place : ℕ) → list_refusal s list (length answers) ≡ 0
    → Serves (ran_of s list answers log place).refusal
    (running (ran_of s list answers log place).totals (ran_of s list answers log place).session (answers_of s list answers log place) (run_log_of s list answers log place))
    (requests_of list)
    (start s answers log place)

-- Where no request of a list is refused all are done, and as many answers are stored as there are combines.
abbrev pub AllDone : Type 0
AllDone = (s : Session) (list : List ℕ) (answers : List ℤ) (log : List ℕ) (place : ℕ) → (ran_of s list answers log place).refusal ≡ 0
    → ((ran_of s list answers log place).index ≡ 0) × ((ran_of s list answers log place).totals.requests ≡ length (requests_of list)) × ((ran_of s list answers log place).totals.answers ≡ combines_in (requests_of list))

-- Where a request of a list is refused, its index k is the number of those done; the list of the k requests before it is read as they are, and alone leaves what is left.
abbrev pub StopsMidway : Type 0
StopsMidway = (s : Session) (list : List ℕ) (answers : List ℤ) (log : List ℕ) (place k : ℕ) → list_refusal s list (length answers) ≡ 0
    → 0 < (ran_of s list answers log place).refusal → (ran_of s list answers log place).index ≡ k
    → ((ran_of s list answers log place).totals.requests ≡ k) × (k < length (requests_of list))
    × ((judged_of (earlier_of list k)).refusal ≡ 0) × (requests_of (earlier_of list k) ≡ take k (requests_of list))
    × (ran_of s (earlier_of list k) answers log place ≡ ended_as 0 (ran_of s list answers log place).totals (ran_of s list answers log place).session)
    × (answers_of s (earlier_of list k) answers log place ≡ answers_of s list answers log place)
    × (run_log_of s (earlier_of list k) answers log place ≡ run_log_of s list answers log place)

-- The number tells a refusal of the whole list from that of a request: a list is refused as a whole with 1, 4, 5, 6 or 10.
abbrev pub WholeNumbers : Type 0
WholeNumbers = (s : Session) (list : List ℕ) (places n : ℕ) → list_refusal s list places ≡ n → 0 < n → OfWhole n

-- A list stops midway with 7, 8 or 9.
abbrev pub StopNumbers : Type 0
StopNumbers = (s : Session) (list : List ℕ) (answers : List ℤ) (log : List ℕ) (place n : ℕ) → Typed s → list_refusal s list (length answers) ≡ 0 → (ran_of s list answers log place).refusal ≡ n → 0 < n → OfStop n

-- An empty list looks at no log place.
abbrev pub EmptyList : Type 0
EmptyList = (s : Session) (list : List ℕ) (answers : List ℤ) (log : List ℕ) (place : ℕ) → requests_of list ≡ [] → list_refusal s list (length answers) ≡ 0
    → (ran_of s list answers log place ≡ ended_as 0 (start s answers log place).totals s) × (answers_of s list answers log place ≡ answers) × (run_log_of s list answers log place ≡ log)

-- Only the answer places of combines that were done are changed.
abbrev pub AnswersKept : Type 0
AnswersKept = (s : Session) (list : List ℕ) (answers : List ℤ) (log : List ℕ) (place k : ℕ) → (ran_of s list answers log place).totals.answers ≤ k
    → (get_or (answers_of s list answers log place) k (pos 0) ≡ get_or answers k (pos 0)) × (length (answers_of s list answers log place) ≡ length answers)

-- The log of a list reads back as the messages of the requests that were done, one behind the other, to the next place, and the total is the number of those records.
abbrev pub RunLogged : Type 0
RunLogged = (s : Session) (list : List ℕ) (answers : List ℤ) (log : List ℕ) (place : ℕ) → Typed s → 0 < (ran_of s list answers log place).totals.requests
    → Reads (run_log_of s list answers log place) place (ran_of s list answers log place).totals.next (spoken_of s list answers log place)
    × ((ran_of s list answers log place).totals.messages ≡ length (spoken_of s list answers log place))
    × ((ran_of s list answers log place).totals.messages ≡ length (messages_from (ran_of s list answers log place).totals.next (run_log_of s list answers log place) place (ran_of s list answers log place).totals.next))

-- In the log of a list the bits before its place and after the last record keep their values, and the log its length.
abbrev pub RunOutsideKept : Type 0
RunOutsideKept = (s : Session) (list : List ℕ) (answers : List ℤ) (log : List ℕ) (place k : ℕ) → (k < place) ⊎ ((ran_of s list answers log place).totals.next ≤ k)
    → (bit (run_log_of s list answers log place) k ≡ bit log k) × (length (run_log_of s list answers log place) ≡ length log)

-- A sound session stays sound, wherever the list stops.
abbrev pub RunSound : Type 0
RunSound = (s : Session) (list : List ℕ) (answers : List ℤ) (log : List ℕ) (place : ℕ) → Typed s → Sound 2 s → Typed (ran_of s list answers log place).session × Sound 2 (ran_of s list answers log place).session
