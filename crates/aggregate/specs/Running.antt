-- What running a list answers, the session it returns, and the answer places and the log that it leaves.
use Rattle.std.specs.Prelude.{◌≡◌, true, false, cond, ◌⊎◌, List, [], ◌∷◌, ◌++◌, ℕ, zero, suc, ◌+◌, ◌<◌, ◌≤◌, eqb, leb, ℤ, length, take, set}
use Rattle.tree.specs.Operation.{sum}
use Rattle.messages.specs.declared.Message.{Message}
use Rattle.requests.specs.Format.{Ruled}
use Rattle.requests.specs.Lists.{list_of, one_if_combine, combines_in}
use Rattle.requests.specs.Reading.{requests_of, judged_of}
use Rattle.requests.specs.declared.Request.{Request}
use Rattle.requests.specs.declared.Request.TheVariants.{Combine, Write}
use Rattle.session.specs.Soundness.{sound}
use Rattle.session.specs.declared.Session.{Session}
use Rattle.mechanism.specs.Requests.{says}
use Rattle.aggregate.specs.Serving.{served_of, log_of}
use Rattle.aggregate.specs.Told.{Outcome, Served, Ran}
use Rattle.aggregate.specs.declared.Totals.{Totals}

-- ---- the requests, one by one

-- what is handed from request to request
pub record Running : Type 0 where
  pub totals : Totals
  pub session : Session
  pub answers : List ℤ
  pub log : List ℕ

abbrev pub running : Totals → Session → List ℤ → List ℕ → Running
running t s answers log = record { totals = t; session = s; answers = answers; log = log }

-- what is handed to the first request
abbrev pub start : Session → List ℤ → List ℕ → ℕ → Running
start s answers log place = running (record { requests = 0; answers = 0; messages = 0; next = place }) s answers log

-- what a request answers when its turn has come
abbrev pub in_turn : Request → Running → Served
in_turn r o = served_of o.session r (length o.log) o.totals.next

-- the answer places after a request, where the answer of a combine goes to the next one
abbrev pub stored : Request → ℤ → ℕ → List ℤ → List ℤ
stored (Combine x) z k answers = set answers k z
stored (Write x v) z k answers = answers

-- the totals with one more request done, which has so many answers
abbrev pub added : ℕ → Outcome → Totals → Totals
added k o t = record { requests = t.requests + 1; answers = t.answers + k; messages = t.messages + o.messages; next = o.next }

unfoldable pub done : Request → Running → Running
done r o =
    running
    (added (one_if_combine r) (in_turn r o).outcome o.totals)
    (in_turn r o).session
    (stored r (in_turn r o).outcome.answer o.totals.answers o.answers)
    (log_of o.session r o.log o.totals.next)

-- what comes of requests in their order, up to the first that is refused: its number, or 0, and how far they came
pub record Ended : Type 0 where
  pub refusal : ℕ
  pub reached : Running

unfoldable pub runs : List Request → Running → Ended
runs [] o = record { refusal = 0; reached = o }
runs (r ∷ rs) o = cond (eqb (in_turn r o).outcome.refusal 0) (runs rs (done r o)) (record { refusal = (in_turn r o).outcome.refusal; reached = o })

-- ---- the whole list

-- the refusal of a list as a whole: the reader's, then 10, then 6
unfoldable pub list_refusal : Session → List ℕ → ℕ → ℕ
list_refusal s list places =
    cond (eqb (judged_of list).refusal 0) (cond (leb (judged_of list).combines places) (cond (sound 2 s) 0 6) 10) (judged_of list).refusal

-- what running a list answers: the number that ended it, 0 for none, the index of the request that was refused, and how far the list came
abbrev pub ended_as : ℕ → Totals → Session → Ran
ended_as n t s = record { refusal = n; index = cond (eqb n 0) 0 t.requests; totals = t; session = s }

-- what running a list answers where it is refused as a whole: the number of the refusal and zeros, and the session as it came
abbrev pub refused : ℕ → Session → Ran
refused n s = record { refusal = n; index = 0; totals = record { requests = 0; answers = 0; messages = 0; next = 0 }; session = s }

-- what running the list comes to where it is not refused as a whole
abbrev pub end_of : Session → List ℕ → List ℤ → List ℕ → ℕ → Ended
end_of s list answers log place = runs (requests_of list) (start s answers log place)

abbrev pub ran : ℕ → Ended → Session → Ran
ran zero e s = ended_as e.refusal e.reached.totals e.reached.session
ran (suc n) e s = refused (suc n) s

unfoldable pub ran_of : Session → List ℕ → List ℤ → List ℕ → ℕ → Ran
ran_of s list answers log place = ran (list_refusal s list (length answers)) (end_of s list answers log place) s

unfoldable pub answers_of : Session → List ℕ → List ℤ → List ℕ → ℕ → List ℤ
answers_of s list answers log place = cond (eqb (list_refusal s list (length answers)) 0) (end_of s list answers log place).reached.answers answers

unfoldable pub run_log_of : Session → List ℕ → List ℤ → List ℕ → ℕ → List ℕ
run_log_of s list answers log place = cond (eqb (list_refusal s list (length answers)) 0) (end_of s list answers log place).reached.log log

-- the list of the first k requests of a list
abbrev pub earlier_of : List ℕ → ℕ → List ℕ
earlier_of list k = list_of (take k (requests_of list))

-- ---- running a list in document 01's words

-- a list is refused as a whole: as its reader refuses it, then with 10, then with 6; 0 is no refusal
pub data Whole (s : Session) (list : List ℕ) (places : ℕ) : ℕ → Type 0 where
  unread : (n : ℕ) → 0 < n → Ruled list n → Whole s list places n
  few_places : Ruled list 0 → places < combines_in (requests_of list) → Whole s list places 10
  unsound : Ruled list 0 → combines_in (requests_of list) ≤ places → sound 2 s ≡ false → Whole s list places 6
  starts : Ruled list 0 → combines_in (requests_of list) ≤ places → sound 2 s ≡ true → Whole s list places 0

-- requests are served one by one and o' is reached: all are done, and n is 0; or the next one is refused with n
pub data Serves (n : ℕ) (o' : Running) : List Request → Running → Type 0 where
  all_done : n ≡ 0 → Serves n o' [] o'
  stopped : (r : Request) (rs : List Request) → 0 < n → (in_turn r o').outcome.refusal ≡ n → Serves n o' (r ∷ rs) o'
  accepted : (r : Request) (rs : List Request) (o : Running) → (in_turn r o).outcome.refusal ≡ 0 → Serves n o' rs (done r o) → Serves n o' (r ∷ rs) o

-- the numbers of a list that is refused as a whole, and of one that stops midway
abbrev pub OfWhole : ℕ → Type 0
OfWhole n = (n ≡ 1) ⊎ ((n ≡ 4) ⊎ ((n ≡ 5) ⊎ ((n ≡ 6) ⊎ (n ≡ 10))))

abbrev pub OfStop : ℕ → Type 0
OfStop n = (n ≡ 7) ⊎ ((n ≡ 8) ⊎ (n ≡ 9))

-- the messages of the requests that were done, in their order
unfoldable pub spoken_in : List Request → Running → List Message
spoken_in [] o = []
spoken_in (r ∷ rs) o = cond (eqb (in_turn r o).outcome.refusal 0) ((says sum o.session r).log ++ spoken_in rs (done r o)) []

abbrev pub spoken_of : Session → List ℕ → List ℤ → List ℕ → ℕ → List Message
spoken_of s list answers log place = spoken_in (requests_of list) (start s answers log place)
