-- What is promised of every history: demand 3, and what it rests on. The theorem that proves a statement bears its name in small letters.
use Rattle.std.specs.Prelude.{◌≡◌, true, List, [], ◌∷◌, ◌++◌, ℕ, ◌+◌, ◌*◌, ◌≤◌, ℤ, pos, length, get_or, Result, Ok}
use Rattle.refusal.specs.declared.Refusal.{Refusal}
use Rattle.twos.specs.Twos.{within}
use Rattle.tree.specs.Operation.{fold, sum}
use Rattle.tree.specs.Kept.{kept}
use Rattle.tree.specs.declared.Tree.{Tree}
use Rattle.rule.specs.Pair.{number_after, messages}
use Rattle.rule.specs.Schedules.{Mode, off, Schedule, stays_off}
use Rattle.rule.specs.Configurations.{Configuration, potential}
use Rattle.requests.specs.Lists.{list_of, combines_in}
use Rattle.requests.specs.Reading.{requests_of, judged_of}
use Rattle.requests.specs.declared.Request.{Request}
use Rattle.requests.specs.declared.Request.TheVariants.{Combine, Write}
use Rattle.session.specs.Holding.{value_of, lease_of, sent_of}
use Rattle.session.specs.declared.Session.{Session}
use Rattle.mechanism.specs.Pairwise.{about, Pair}
use Rattle.session.proofs.Session.load.Reads as load_contract
use Rattle.session.proofs.Session.fresh.Reads as fresh_contract
use Rattle.aggregate.specs.Told.{told_served, told_ran}
use Rattle.aggregate.specs.declared.Served.{Served}
use Rattle.aggregate.specs.declared.Ran.{Ran}
use Rattle.aggregate.proofs.combine.Reads as combine_contract
use Rattle.aggregate.proofs.write.Reads as write_contract
use Rattle.aggregate.proofs.request.Reads as request_contract
use Rattle.aggregate.proofs.run.Reads as run_contract
use Rattle.history.specs.History.{Call, combine, write, run, of_request, of_list, result, from_place, lent_places, lent_log, Refused, refused_with, logged_by, History, session_after, accepted_in, answers_in, logged_in, Fresh, Good, last_written, NoWrite, own_of, all_pairs, rounds_of, RunsRounds}

-- ---- the contracts

-- What comes of a call of `combine` is what the function's own contract allows, its `Post`: of the arguments in their order, the answer, and the arguments at the return, here with a prime. `now` is what stands in lent memory; what an answer tells is `told_served`.
abbrev pub CombineContract : Type 0
CombineContract = (κ : _) (session session' : Session) (x x' : ℕ) (log log' : _) (place place' : ℕ) (answer : Result Served Refusal)
    → combine_contract.Post κ (session, (x, (log, (place, tt)))) answer (session', (x', (log', (place', tt))))
    → result session (combine x log.now place) ≡ of_request (Combine x) (told_served session answer) log'.now

-- What comes of a call of `write` is what the contract of `write` allows, where the type of the value says that it has 32 bits.
abbrev pub WriteContract : Type 0
WriteContract = (κ : _) (session session' : Session) (x x' : ℕ) (value value' : ℤ) (log log' : _) (place place' : ℕ) (answer : Result Served Refusal)
    → write_contract.Post κ (session, (x, (value, (log, (place, tt))))) answer (session', (x', (value', (log', (place', tt))))) → (small : within 32 value ≡ true)
    → result session (write x value small log.now place) ≡ of_request (Write x value) (told_served session answer) log'.now

-- What the contract of `request` allows is what comes of the call of `combine` or of `write` that the request is.
abbrev pub RequestContract : Type 0
RequestContract = (κ : _) (session session' : Session) (r r' : Request) (log log' : _) (place place' : ℕ) (answer : Result Served Refusal)
    → request_contract.Post κ (session, (r, (log, (place, tt)))) answer (session', (r', (log', (place', tt))))
    → ((x : ℕ) → r ≡ Combine x → result session (combine x log.now place) ≡ of_request r (told_served session answer) log'.now)
    × ((x : ℕ) (value : ℤ) (small : within 32 value ≡ true) → r ≡ Write x value → result session (write x value small log.now place) ≡ of_request r (told_served session answer) log'.now)

-- What comes of a call of `run` is what the contract of `run` allows.
abbrev pub RunContract : Type 0
RunContract = (κ : _) (session session' : Session) (list list' answers answers' log log' : _) (place place' : ℕ) (answer : Result Ran Refusal)
    → run_contract.Post κ (session, (list, (answers, (log, (place, tt))))) answer (session', (list', (answers', (log', (place', tt)))))
    → result session (run list.now answers.now log.now place) ≡ of_list list.now (told_ran session answer) answers'.now log'.now

-- A session that `Session::load` returns is fresh.
abbrev pub LoadContract : Type 0
LoadContract = (κ : _) (session session' bytes bytes' : _) (begun : Session) → load_contract.Post κ (session, (bytes, tt)) (Ok begun) (session', (bytes', tt)) → Fresh begun

-- A session that `Session::fresh` returns is fresh; the type of a tree says that it has 256 parents.
abbrev pub FreshContract : Type 0
FreshContract = (κ : _) (tree tree' : Tree) (begun : Session) → fresh_contract.Post κ (tree, tt) (Ok begun) (tree', tt) → length tree.parents ≡ 256 → Fresh begun

-- ---- from any session on

-- A refused call returns its number with zeros, and the session, the answer places and the log as they were.
abbrev pub RefusedReturns : Type 0
RefusedReturns = (s : Session) (c : Call) → Refused s c → result s c ≡ refused_with (result s c).refusal s (lent_places c) (lent_log c)

-- The session, the answer places and the log are as they were after every call that accepts no request, as where the first request of a list is refused.
abbrev pub NothingChanged : Type 0
NothingChanged = (s : Session) (c : Call) → (result s c).accepted ≡ [] → ((result s c).session ≡ s) × ((result s c).places ≡ lent_places c) × ((result s c).log ≡ lent_log c)

-- What was last written is what was written last: y, if no write at the node comes after that of y; and z, if there is none at all.
abbrev pub LastIsLast : Type 0
LastIsLast = (u : ℕ) (z y : ℤ) (earlier later : List Request) → NoWrite u later → (last_written u z (earlier ++ (Write u y ∷ later)) ≡ y) × (last_written u z later ≡ z)

-- ---- from any good session on

-- Every session of a history is good, and so it is sound.
abbrev pub StaysGood : Type 0
StaysGood = (o : Session) → Good o → (h : History) → Good (session_after o h)

-- The accepted requests alone decide where a history ends, what it answers and what it logs.
abbrev pub AcceptedDecide : Type 0
AcceptedDecide = (o : Session) → Good o → (h k : History) → accepted_in o h ≡ accepted_in o k
    → (session_after o h ≡ session_after o k) × (answers_in o h ≡ answers_in o k) × (logged_in o h ≡ logged_in o k)

-- The session keeps its tree, counts the accepted requests, and holds of each node what was last written there.
abbrev pub SessionHolds : Type 0
SessionHolds = (o : Session) → Good o → (h : History)
    → ((session_after o h).tree ≡ o.tree) × ((session_after o h).accepted ≡ o.accepted + length (accepted_in o h))
    × ((u : ℕ) → value_of (session_after o h) u ≡ last_written u (value_of o u) (accepted_in o h))

-- The messages that a call answers are as many as it logged.
abbrev pub MessagesLogged : Type 0
MessagesLogged = (s : Session) → Good s → (c : Call) → (result s c).messages ≡ length (logged_by s c)

-- The answers are as many as the accepted combines, and each combine answers the sum of what was last written at every node, or was there at first.
abbrev pub EachAnswered : Type 0
EachAnswered = (o : Session) → Good o → (h : History) → length (answers_in o h) ≡ combines_in (accepted_in o h)

abbrev pub SumsFrom : Type 0
SumsFrom = (o : Session) → Good o → (h : History) (earlier later : List Request) (x : ℕ) → accepted_in o h ≡ earlier ++ (Combine x ∷ later)
    → get_or (answers_in o h) (combines_in earlier) (pos 0) ≡ fold sum (λ u. last_written u (value_of o u) earlier) o.tree.count

-- Of each ordered pair of neighbours the lease number and the messages are those of the rule's automaton, over the pair's own list.
abbrev pub NumbersRuled : Type 0
NumbersRuled = (o : Session) → Good o → (h : History) (u v : ℕ) → Pair o u v → lease_of (session_after o h) u v ≡ number_after 2 (lease_of o u v) (own_of o.tree u v (accepted_in o h))

abbrev pub CountsRuled : Type 0
CountsRuled = (o : Session) → Good o → (h : History) (u v : ℕ) → Pair o u v
    → sent_of (session_after o h) u v ≡ sent_of o u v + messages 2 (lease_of o u v) (own_of o.tree u v (accepted_in o h))

-- The messages that the session counts for an ordered pair of neighbours are those that were logged for it.
abbrev pub CountsLogged : Type 0
CountsLogged = (o : Session) → Good o → (h : History) (u v : ℕ) → Pair o u v → sent_of (session_after o h) u v ≡ sent_of o u v + length (kept (about u v) (logged_in o h))

-- Each message that was logged is one of exactly one pair of neighbours, so that together the pairs count all of them.
abbrev pub AllCounted : Type 0
AllCounted = (o : Session) → Good o → (h : History) → all_pairs o.tree (sent_of (session_after o h)) ≡ all_pairs o.tree (sent_of o) + length (logged_in o h)

-- Twice a pair's new messages is at most five times the cost of any schedule of its own list, and the potential of its number and mode at the start.
abbrev pub BoundedFrom : Type 0
BoundedFrom = (o : Session) → Good o → (h : History) (u v : ℕ) → Pair o u v → (m : Mode) (c : ℕ) → Schedule m (own_of o.tree u v (accepted_in o h)) c
    → 2 * sent_of (session_after o h) u v ≤ 2 * sent_of o u v + (5 * c + potential m (lease_of o u v))

-- ---- from a fresh session on: demand 3

-- A fresh session is good.
abbrev pub FreshGood : Type 0
FreshGood = (o : Session) → Fresh o → Good o

-- Each accepted combine answers the sum of the last accepted write at every node, 0 where there is none.
abbrev pub Sums : Type 0
Sums = (o : Session) → Fresh o → (h : History) (earlier later : List Request) (x : ℕ) → accepted_in o h ≡ earlier ++ (Combine x ∷ later)
    → get_or (answers_in o h) (combines_in earlier) (pos 0) ≡ fold sum (λ u. last_written u (pos 0) earlier) o.tree.count

-- The lease number of each ordered pair of neighbours is the paper's configuration of the pair's own list.
abbrev pub NumbersConfigured : Type 0
NumbersConfigured = (o : Session) → Fresh o → (h : History) (u v : ℕ) → Pair o u v → Configuration (own_of o.tree u v (accepted_in o h)) (lease_of (session_after o h) u v)

-- For each ordered pair of neighbours, twice its messages is at most five times the cost of any schedule of its own list.
abbrev pub Bounded : Type 0
Bounded = (o : Session) → Fresh o → (h : History) (u v : ℕ) → Pair o u v → (c : ℕ) → Schedule off (own_of o.tree u v (accepted_in o h)) c → 2 * sent_of (session_after o h) u v ≤ 5 * c

-- The messages of each ordered pair of neighbours are those that were logged for it.
abbrev pub Logged : Type 0
Logged = (o : Session) → Fresh o → (h : History) (u v : ℕ) → Pair o u v → sent_of (session_after o h) u v ≡ length (kept (about u v) (logged_in o h))

-- Twice all messages is at most five times the cost of any choice of schedules, one for each pair, added up.
abbrev pub BoundedTogether : Type 0
BoundedTogether = (o : Session) → Fresh o → (h : History) (cost : ℕ → ℕ → ℕ) → ((u v : ℕ) → Pair o u v → Schedule off (own_of o.tree u v (accepted_in o h)) (cost u v))
    → 2 * length (logged_in o h) ≤ 5 * all_pairs o.tree cost

-- On two nodes, for each n from 0 to 1,365 and whatever is written, the list of n rounds is accepted by the list's reader.
abbrev pub RoundsRead : Type 0
RoundsRead = (y z : ℕ → ℤ) → ((k : ℕ) → (within 32 (y k) ≡ true) × (within 32 (z k) ≡ true)) → (n : ℕ) → n ≤ 1365
    → ((judged_of (list_of (rounds_of y z n))).refusal ≡ 0) × (requests_of (list_of (rounds_of y z n)) ≡ rounds_of y z n)

-- The list of n rounds, run on a fresh session of two nodes, is done to the end and sends 5 n messages, all on the pair (1,0).
abbrev pub RoundsSent : Type 0
RoundsSent = (o : Session) → Fresh o → o.tree.count ≡ 2 → (n : ℕ) → n ≤ 1365 → (c : Call) → RunsRounds n c
    → ((result o c).refusal ≡ 0) × (length (result o c).accepted ≡ 3 * n) × ((result o c).messages ≡ 5 * n) × ((result o c).next ≡ from_place c + 210 * n)
    × (sent_of (result o c).session 1 0 ≡ 5 * n) × (sent_of (result o c).session 0 1 ≡ 0)

-- For the n rounds the schedule of the own list of the pair (1,0) that stays off costs 2 n, so that the bound is met exactly.
abbrev pub RoundsExact : Type 0
RoundsExact = (o : Session) → Fresh o → o.tree.count ≡ 2 → (n : ℕ) → n ≤ 1365 → (c : Call) → RunsRounds n c
    → (cost : ℕ) × (d : Schedule off (own_of o.tree 1 0 (result o c).accepted) cost) × (stays_off d ≡ true) × (cost ≡ 2 * n) × (2 * sent_of (result o c).session 1 0 ≡ 5 * cost)

-- There is a fresh session of two nodes and a call that runs n rounds, for each n: a log of 35,832 bytes has room.
abbrev pub RoundsThere : Type 0
RoundsThere = (n : ℕ) → n ≤ 1365 → ((o : Session) × Fresh o × (o.tree.count ≡ 2)) × ((c : Call) × RunsRounds n c)
