-- What comes of one call: its accepted requests are in order, and session, answers and messages are those of these requests.
use mathlib.Core.Path.{◌≡◌, refl, sym, ap, ◌∙◌}
use mathlib.Core.Logic.{◌≢◌}
use mathlib.Core.List.{List, [], append-nil}
use Prim.Native.Nat.{ℕ, ◌+◌, ◌<◌, ◌≤◌}
use native.Mathlib.Omega.{arith}
use lib.IntN.{ℤ}
use lib.ListN.{length, take}
use borrow.Author.Tests.{ne_eqb}
use Rattle.tree.specs.Operation.{sum}
use Rattle.tree.proofs.Cases.{lt_or_le}
use Rattle.messages.specs.Reading.{messages_from}
use Rattle.messages.specs.Writing.{bits_of_all}
use Rattle.messages.specs.declared.Message.{Message}
use Rattle.messages.proofs.Listing.{nothing_between, messages_of_read}
use Rattle.requests.specs.Lists.{Small, combines_in}
use Rattle.requests.specs.Reading.{requests_of}
use Rattle.requests.specs.declared.Request.{Request}
use Rattle.requests.specs.declared.Request.TheVariants.{Combine, Write}
use Rattle.requests.proofs.Runs.{read_sized, counts_right}
use Rattle.session.specs.Holding.{Typed}
use Rattle.session.specs.declared.Session.{Session}
use Rattle.mechanism.specs.Requests.{says}
use Rattle.aggregate.specs.Serving.{served_of, log_of}
use Rattle.aggregate.specs.Running.{Running, start, Ended, runs, list_refusal, end_of, ran_of, answers_of, run_log_of, spoken_in}
use Rattle.aggregate.proofs.Verdicts.{answers, refuses, logs_nothing, verdict}
use Rattle.aggregate.proofs.Logging.{logged_exactly}
use Rattle.aggregate.proofs.Runs.{serves, Reach, reach, combines_first, sized_first}
use Rattle.aggregate.proofs.Wholly.{runnable_by}
use Rattle.aggregate.proofs.Listing.{either, ran_whole, answers_whole, log_whole, ran_is, answers_are, log_is}
use Rattle.aggregate.proofs.Speaking.{spoke, run_logged}
use Rattle.history.specs.History.{Call, combine, write, run, Result, answer_of, of_request, of_list, result, from_place, refused_with, Good}
use Rattle.history.specs.Promises.{RefusedReturns, NothingChanged, MessagesLogged}
use Rattle.history.proofs.Succession.{after_all, answers_to, spoken_by, AllInOrder}
use Rattle.history.proofs.Done.{in_order_by, Went, went}

-- a result that follows from its accepted requests, at a place, from the session s: they are in order, and session, answers and messages are theirs
pub record Follows (s : Session) (place : ℕ) (d : Result) : Type 0 where
  pub in_order : AllInOrder sum 2 s d.accepted
  pub session_is : d.session ≡ after_all sum 2 s d.accepted
  pub answers_are : d.answers ≡ answers_to sum 2 s d.accepted
  pub logged_are : messages_from d.next d.log place d.next ≡ spoken_by sum 2 s d.accepted
  pub counted : d.messages ≡ length (spoken_by sum 2 s d.accepted)
  pub moved : d.accepted ≢ [] → d.next ≡ place + bits_of_all (spoken_by sum 2 s d.accepted)

-- what comes of a call
abbrev pub Comes : Session → Call → Type 0
Comes s c = Follows s (from_place c) (result s c)

-- where nothing is accepted, with zeros
follows_none : (s : Session) (place n : ℕ) (places : List ℤ) (log : List ℕ) → Follows s place (refused_with n s places log)
unfolding after_all answers_to spoken_by messages_from
follows_none s place n places log = record { in_order = tt; session_is = refl; answers_are = refl; logged_are = refl; counted = refl; moved = λ d. absurd (d refl) }

-- ---- one request

abbrev of_one : Session → Request → List ℕ → ℕ → Result
of_one s r log place = of_request r (served_of s r (length log) place) (log_of s r log place)

refused_one : (s : Session) (r : Request) (log : List ℕ) (place : ℕ) → 0 < (served_of s r (length log) place).outcome.refusal
    → of_one s r log place ≡ refused_with (served_of s r (length log) place).outcome.refusal s [] log
refused_one s r log place l = rw (refuses s r (length log) place l, logs_nothing s r log place l, ne_eqb (served_of s r (length log) place).outcome.refusal 0 (omega (arith, l)))

follows_one : (s : Session) (r : Request) (log : List ℕ) (place : ℕ) → Typed s → Small r → Follows s place (of_one s r log place)
unfolding after_all answers_to spoken_by
follows_one s r log place typed h = verdict s r (length log) place
    (λ e.
    let said = (says sum s r).log in
    let a = answers s r (length log) place e in
    let reads = rw a at (logged_exactly s r log place typed h e).0 in
    rw a
    (record {
      in_order = (in_order_by s r (length log) place h e, tt);
      session_is = refl;
      answers_are = sym (append-nil (answer_of r (says sum s r).sum));
      logged_are = messages_of_read (log_of s r log place) place (place + bits_of_all said) said reads ∙ sym (append-nil said);
      counted = ap length (sym (append-nil said));
      moved = λ d. ap (λ (ms : List Message). place + bits_of_all ms) (sym (append-nil said));
    }))
    (λ l. rw (refused_one s r log place l) (follows_none s place _ [] log))

-- ---- a list

module _ (s : Session) (list : List ℕ) (places : List ℤ) (log : List ℕ) (place : ℕ) where
  abbrev first : Running
  first = start s places log place

  abbrev last : Running
  last = (end_of s list places log place).reached

  came : Reach (requests_of list) first (end_of s list places log place).refusal last
  came = reach (requests_of list) first

  -- the requests that are done, and would have been done alone
  abbrev these : List Request
  these = take last.totals.requests (requests_of list)

  these_are : take came.k (requests_of list) ≡ these
  these_are = let e : came.k ≡ last.totals.requests = omega (arith, came.counted) in ap (λ (k : ℕ). take k (requests_of list)) e

  alone : runs these first ≡ record { refusal = 0; reached = last }
  alone = ap (λ (l : List Request). runs l first) (sym these_are) ∙ came.alone

  -- where there are none, nothing is reached
  stays : these ≡ [] → last ≡ first
  unfolding runs
  stays none = ap (λ (e : Ended). e.reached) (sym alone ∙ ap (λ (l : List Request). runs l first) none)

  led : Went first last these
  led = went last these first (sized_first last.totals.requests (requests_of list) (read_sized list)) (rw alone at (serves these first))

  said : spoken_in (requests_of list) first ≡ spoken_by sum 2 s these
  said = sym came.spoken ∙ ap (λ (l : List Request). spoken_in l first) these_are ∙ led.spoken

  abbrev of_all : Result
  of_all = of_list list (ran_of s list places log place) (answers_of s list places log place) (run_log_of s list places log place)

  refused_list : 0 < list_refusal s list (length places) → of_all ≡ refused_with (ran_of s list places log place).refusal s places log
  refused_list l = rw (ran_whole s list places log place l, answers_whole s list places log place l, log_whole s list places log place l)

  -- where its requests are served
  module _ (begun : list_refusal s list (length places) ≡ 0) where
    enough : combines_in these ≤ length places
    enough =
        let h = runnable_by s list (length places) begun in
        omega (arith, h.enough, (counts_right list h.read).1, combines_first last.totals.requests (requests_of list))

    reads_as : Typed s → messages_from last.totals.next last.log place last.totals.next ≡ spoken_by sum 2 s these
    unfolding spoken_by
    reads_as typed = lt_or_le 0 last.totals.requests
        (λ some.
        let i : 0 < (ran_of s list places log place).totals.requests = rw (ran_is s list places log place begun) some in
        let reads = rw (ran_is s list places log place begun, log_is s list places log place begun) at (run_logged s list places log place typed i).0 in
        messages_of_read last.log place last.totals.next (spoken_in (requests_of list) first) reads ∙ said)
        (λ few.
        let e : last.totals.requests ≡ 0 = omega (arith, few) in
        let none : these ≡ [] = ap (λ (k : ℕ). take k (requests_of list)) e in
        ap (λ (o : Running). messages_from o.totals.next o.log place o.totals.next) (stays none) ∙ nothing_between place log place ∙ ap (spoken_by sum 2 s) (sym none))

    follows_served : Typed s → Follows s place of_all
    follows_served typed =
        let k = spoke (requests_of list) first in
        rw (ran_is s list places log place begun, answers_are s list places log place begun, log_is s list places log place begun)
        (record {
          in_order = led.in_order;
          session_is = led.session_is;
          answers_are = led.told (omega (arith, enough));
          logged_are = reads_as typed;
          counted = omega (arith, k.count, ap length said);
          moved = λ d. k.place ∙ ap (λ (ms : List Message). place + bits_of_all ms) said;
        })

  follows_list : Typed s → Follows s place of_all
  follows_list typed = either s list places log place
      (λ begun. follows_served begun typed)
      (λ l. rw (refused_list l) (follows_none s place _ places log))

-- ---- a call

pub comes : (s : Session) → Good s → (c : Call) → Comes s c
unfolding result
comes s good (combine x log place) = follows_one s (Combine x) log place good.typed tt
comes s good (write x value small log place) = follows_one s (Write x value) log place good.typed small
comes s good (run list places log place) = follows_list s list places log place good.typed

pub messages_logged : MessagesLogged
messages_logged s good c = let k = comes s good c in k.counted ∙ ap length (sym k.logged_are)

-- what is left where nothing is accepted
abbrev Kept : Session → List ℤ → List ℕ → Result → Type 0
Kept s places log d = (d.session ≡ s) × (d.places ≡ places) × (d.log ≡ log)

kept_one : (s : Session) (r : Request) (log : List ℕ) (place : ℕ) → (of_one s r log place).accepted ≡ [] → Kept s [] log (of_one s r log place)
kept_one s r log place none = verdict s r (length log) place
    (λ e. let f : 1 ≡ 0 = ap length (rw e at none) in absurd (omega (arith, f)))
    (λ l. rw (refuses s r (length log) place l) (refl, refl, logs_nothing s r log place l))

kept_list : (s : Session) (list : List ℕ) (places : List ℤ) (log : List ℕ) (place : ℕ) → (of_all s list places log place).accepted ≡ [] → Kept s places log (of_all s list places log place)
kept_list s list places log place none = either s list places log place
    (λ begun.
    let same = stays s list places log place (rw (ran_is s list places log place begun) at none) in
    rw (ran_is s list places log place begun, answers_are s list places log place begun, log_is s list places log place begun, same) (refl, refl, refl))
    (λ l. rw (ran_whole s list places log place l, answers_whole s list places log place l, log_whole s list places log place l) (refl, refl, refl))

pub nothing_changed : NothingChanged
unfolding result
nothing_changed s (combine x log place) = kept_one s (Combine x) log place
nothing_changed s (write x value small log place) = kept_one s (Write x value) log place
nothing_changed s (run list places log place) = kept_list s list places log place

pub refused_returns : RefusedReturns
unfolding result
refused_returns s (combine x log place) = refused_one s (Combine x) log place
refused_returns s (write x value small log place) = refused_one s (Write x value) log place
refused_returns s (run list places log place) = refused_list s list places log place
