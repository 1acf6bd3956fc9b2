-- What a list logs: the messages of the requests that were done, one behind the other.
use mathlib.Core.Path.{◌≡◌, refl, ap, ◌∙◌}
use mathlib.Core.List.{List, [], ◌∷◌, ◌++◌}
use Prim.Native.Nat.{ℕ, zero, suc, ◌+◌, ◌<◌, ◌≤◌}
use native.Mathlib.Omega.{arith}
use lib.ListN.{length, length-append}
use borrow.Author.Tests.{ne_eqb}
use Rattle.fields.specs.Usable.{usable_bits}
use Rattle.tree.specs.Operation.{sum}
use Rattle.messages.specs.Records as records
use Rattle.messages.specs.Writing.{logged, bits_of_all}
use Rattle.messages.specs.declared.Message.{Message}
use Rattle.messages.proofs.Logs.{log_length_kept, log_outside_kept, log_reads_back}
use Rattle.messages.proofs.Stretches.{bits_append, sized_append, logged_append}
use Rattle.messages.proofs.Listing.{messages_of_read}
use Rattle.requests.specs.Lists.{AllSized}
use Rattle.requests.specs.Reading.{requests_of}
use Rattle.requests.specs.declared.Request.{Request}
use Rattle.requests.proofs.Runs.{read_sized}
use Rattle.session.specs.Holding.{Typed}
use Rattle.session.specs.Soundness.{Sound}
use Rattle.mechanism.specs.Requests.{says}
use Rattle.mechanism.proofs.Fits.{messages_fit, sum_ranging}
use Rattle.aggregate.specs.Running.{Running, start, in_turn, done, runs, spoken_in}
use Rattle.aggregate.specs.Promises.{RunLogged, RunOutsideKept}
use Rattle.aggregate.proofs.Verdicts.{accepted_by, answers, logs}
use Rattle.aggregate.proofs.Runs.{along}
use Rattle.aggregate.proofs.Wholly.{runnable_by}
use Rattle.aggregate.proofs.Lasting.{fine_next}
use Rattle.aggregate.proofs.Listing.{either, ran_whole, log_whole, ran_is, log_is}

-- ---- one request more

-- what an accepted request says
module _ (r : Request) (o : Running) (e : (in_turn r o).outcome.refusal ≡ 0) where
  abbrev says_it : List Message
  says_it = (says sum o.session r).log

  log_next : (done r o).log ≡ logged o.log o.totals.next says_it
  unfolding done
  log_next = logs o.session r o.log o.totals.next e

  place_next : (done r o).totals.next ≡ o.totals.next + bits_of_all says_it
  unfolding done
  place_next = rw (answers o.session r (length o.log) o.totals.next e)

  count_next : (done r o).totals.messages ≡ o.totals.messages + length says_it
  unfolding done
  count_next = rw (answers o.session r (length o.log) o.totals.next e)

-- what was logged on the way from o to o'
pub record Spoke (o : Running) (ms : List Message) (o' : Running) : Type 0 where
  pub logs : o'.log ≡ logged o.log o.totals.next ms
  pub place : o'.totals.next ≡ o.totals.next + bits_of_all ms
  pub count : o'.totals.messages ≡ o.totals.messages + length ms

spoke_none : (o : Running) → Spoke o [] o
unfolding logged bits_of_all
spoke_none o = record { logs = refl; place = omega arith; count = omega arith }

spoke_more : (r : Request) (o : Running) (ms : List Message) (o' : Running) → (in_turn r o).outcome.refusal ≡ 0 → Spoke (done r o) ms o' → Spoke o ((says sum o.session r).log ++ ms) o'
spoke_more r o ms o' e k =
    let said = (says sum o.session r).log in
    record {
      logs = k.logs ∙ rw (log_next r o e, place_next r o e) (logged_append o.log o.totals.next said ms);
      place = omega (arith, k.place, place_next r o e, bits_append said ms);
      count = omega (arith, k.count, count_next r o e, length-append said ms);
    }

pub spoke : (rs : List Request) (o : Running) → Spoke o (spoken_in rs o) (runs rs o).reached
unfolding runs spoken_in
spoke [] o = spoke_none o
spoke (r ∷ rs) o = go (spoke rs (done r o)) (in_turn r o).outcome.refusal refl
  where
    go : Spoke (done r o) (spoken_in rs (done r o)) (runs rs (done r o)).reached → (n : ℕ) → (in_turn r o).outcome.refusal ≡ n → Spoke o (spoken_in (r ∷ rs) o) (runs (r ∷ rs) o).reached
    go rest zero e = rw e (spoke_more r o (spoken_in rs (done r o)) (runs rs (done r o)).reached e rest)
    go rest (suc n) e = rw (e, ne_eqb (suc n) 0 (omega arith)) (spoke_none o)

-- all of it fits the records
fitting : (rs : List Request) (o : Running) → AllSized rs → Typed o.session → Sound 2 o.session → records.AllSized (spoken_in rs o)
unfolding spoken_in
fitting [] o sized typed holds = tt
fitting (r ∷ rs) o sized typed holds =
    go (let f = fine_next r o sized.0 (typed, holds) in fitting rs (done r o) sized.1 f.0 f.1) (in_turn r o).outcome.refusal refl
  where
    go : records.AllSized (spoken_in rs (done r o)) → (n : ℕ) → (in_turn r o).outcome.refusal ≡ n → records.AllSized (spoken_in (r ∷ rs) o)
    go rest zero e =
        let a = accepted_by o.session r (length o.log) o.totals.next e in
        rw e (sized_append (says sum o.session r).log (spoken_in rs (done r o)) (messages_fit sum 2 sum_ranging o.session typed holds r sized.0.1 a.inside) rest)
    go rest (suc n) e = rw (e, ne_eqb (suc n) 0 (omega arith)) tt

-- ---- the room

abbrev Inside : Running → Type 0
Inside o = o.totals.next ≤ usable_bits (length o.log)

-- the place stays inside the usable log, and is there once a request was done
pub record Room (o o' : Running) : Type 0 where
  pub stays : Inside o → Inside o'
  pub comes : o.totals.requests < o'.totals.requests → Inside o'

inside_next : (r : Request) (o : Running) → (in_turn r o).outcome.refusal ≡ 0 → Inside (done r o)
inside_next r o e =
    let a = accepted_by o.session r (length o.log) o.totals.next e in
    rw (place_next r o e, log_next r o e, log_length_kept o.log o.totals.next (says sum o.session r).log) a.room

room : (rs : List Request) (o : Running) → AllSized rs → Room o (runs rs o).reached
room = along Room (λ o. record { stays = λ h. h; comes = λ h. absurd (omega arith) }) (λ r o o' sized e k. let h = k.stays (inside_next r o e) in record { stays = λ i. h; comes = λ i. h })

pub run_logged : RunLogged
run_logged s list answers log place typed some = either s list answers log place
    (λ e.
    let o = start s answers log place in
    let k = spoke (requests_of list) o in
    let ms = spoken_in (requests_of list) o in
    let inside = (room (requests_of list) o (read_sized list)).comes (rw (ran_is s list answers log place e) at some) in
    let h : place + bits_of_all ms ≤ usable_bits (length log) = rw (k.place, k.logs, log_length_kept log place ms) at inside in
    let holds = (runnable_by s list (length answers) e).holds in
    let reads = log_reads_back log place ms (fitting (requests_of list) o (read_sized list) typed holds) h in
    rw (ran_is s list answers log place e, log_is s list answers log place e, k.logs, k.place) (reads, omega (arith, k.count), omega (arith, k.count, ap length (messages_of_read _ place _ ms reads))))
    (λ l. absurd (omega (arith, rw (ran_whole s list answers log place l) at some)))

pub run_outside_kept : RunOutsideKept
run_outside_kept s list answers log place k h = either s list answers log place
    (λ e.
    let j = spoke (requests_of list) (start s answers log place) in
    let ms = spoken_in (requests_of list) (start s answers log place) in
    rw (log_is s list answers log place e, j.logs) (log_outside_kept log place ms k (rw (← j.place) (rw (ran_is s list answers log place e) at h)), log_length_kept log place ms))
    (λ l. rw (log_whole s list answers log place l) (refl, refl))
