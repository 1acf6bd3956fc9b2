-- A list whose requests are in order and have room for all their records is done to the end.
use mathlib.Core.Path.{◌≡◌, refl, ap, ◌∙◌}
use mathlib.Core.List.{List, [], ◌∷◌}
use Prim.Native.Nat.{ℕ, ◌+◌, ◌≤◌}
use native.Mathlib.Omega.{arith}
use lib.IntN.{ℤ}
use lib.ListN.{length, take}
use lib.Seq.{take-length}
use Rattle.fields.specs.Usable.{usable_bits}
use Rattle.tree.specs.Operation.{sum}
use Rattle.messages.specs.Writing.{bits_of_all}
use Rattle.messages.specs.declared.Message.{Message}
use Rattle.messages.proofs.Stretches.{bits_append}
use Rattle.requests.specs.Lists.{AllSized, list_of, combines_in}
use Rattle.requests.specs.declared.Request.{Request}
use Rattle.requests.proofs.Refusals.{list_ruled_exactly}
use Rattle.requests.proofs.Written.{list_reads_back}
use Rattle.session.specs.declared.Session.{Session}
use Rattle.session.proofs.Soundly.{sound_exactly}
use Rattle.mechanism.specs.Requests.{says, after}
use Rattle.mechanism.specs.Refusals as refusals
use Rattle.mechanism.proofs.Fits.{messages_fit, never_misfit, sum_ranging}
use Rattle.aggregate.specs.Running.{Running, start, in_turn, done, runs, list_refusal, starts}
use Rattle.aggregate.proofs.Verdicts.{answers, refused_exactly}
use Rattle.aggregate.proofs.Logging.{request_length_kept}
use Rattle.aggregate.proofs.Runs.{serves, reach}
use Rattle.aggregate.proofs.Listing.{whole_exactly, ran_is}
use Rattle.aggregate.proofs.Speaking.{spoke}
use Rattle.history.specs.History.{Result, run, result, Good}
use Rattle.history.proofs.Succession.{InOrder, Trusted, after_all, spoken_by, AllInOrder}
use Rattle.history.proofs.Steps.{trusted_after}
use Rattle.history.proofs.Done.{went}
use Rattle.history.proofs.Histories.{trusted}

-- ---- the requests

-- one request
accepts : (r : Request) (o : Running) → Trusted sum 2 o.session → InOrder sum o.session r
    → o.totals.next + bits_of_all (says sum o.session r).log ≤ usable_bits (length o.log) → (in_turn r o).outcome.refusal ≡ 0
accepts r o f i room =
    let s = o.session in
    let said = (says sum s r).log in
    (refused_exactly s r (length o.log) o.totals.next 0).1
    (refusals.accepted ((sound_exactly 2 s).1 f.holds) i.inside i.free room (never_misfit said (messages_fit sum 2 sum_ranging s f.typed f.holds r i.small i.inside)))

-- one after the other
finishes : (l : List Request) (o : Running) → Trusted sum 2 o.session → AllInOrder sum 2 o.session l
    → o.totals.next + bits_of_all (spoken_by sum 2 o.session l) ≤ usable_bits (length o.log) → (runs l o).refusal ≡ 0
unfolding runs spoken_by done
finishes [] o f h room = refl
finishes (r ∷ l) o f (i, h) room =
    let s = o.session in
    let said = (says sum s r).log in
    let later = spoken_by sum 2 (after sum 2 s r) l in
    let joined = bits_append said later in
    let taken = accepts r o f i (omega (arith, room, joined)) in
    let a = answers s r (length o.log) o.totals.next taken in
    let same = request_length_kept s r o.log o.totals.next in
    let rest : o.totals.next + bits_of_all said + bits_of_all later ≤ usable_bits (length o.log) = omega (arith, room, joined) in
    rw taken (finishes l (done r o) (rw a (trusted_after sum 2 s r f i sum_ranging)) (rw a h) (rw (a, same) rest))

-- ---- the call that runs their list

-- all requests are accepted, and messages, next place and session are theirs
pub record Finished (s : Session) (rs : List Request) (place : ℕ) (d : Result) : Type 0 where
  pub none_refused : d.refusal ≡ 0
  pub all_accepted : d.accepted ≡ rs
  pub counted : d.messages ≡ length (spoken_by sum 2 s rs)
  pub moved : d.next ≡ place + bits_of_all (spoken_by sum 2 s rs)
  pub session_is : d.session ≡ after_all sum 2 s rs

module _ (s : Session) (rs : List Request) (places : List ℤ) (log : List ℕ) (place : ℕ) where
  abbrev first : Running
  first = start s places log place

  abbrev last : Running
  last = (runs rs first).reached

  pub finished : Good s → AllSized rs → length rs ≤ 4096 → AllInOrder sum 2 s rs → combines_in rs ≤ length places → place + bits_of_all (spoken_by sum 2 s rs) ≤ usable_bits (length log)
      → Finished s rs place (result s (run (list_of rs) places log place))
  unfolding result
  finished good sized few h enough room =
      let read = list_reads_back rs sized few in
      let begun : list_refusal s (list_of rs) (length places) ≡ 0
      = (whole_exactly s (list_of rs) (length places) 0).1 (starts ((list_ruled_exactly (list_of rs) 0).0 read.0) (rw read.1 enough) ((sound_exactly 2 s).1 good.holds)) in
      let ended = finishes rs first (trusted s good) h room in
      let came = reach rs first in
      let w = went last rs first sized (rw ended at (serves rs first)) in
      let k = spoke rs first in
      let all : last.totals.requests ≡ length rs = omega (arith, came.counted, (came.all ended).0) in
      rw (ran_is s (list_of rs) places log place begun, read.1)
      (record {
        none_refused = ended;
        all_accepted = ap (λ (n : ℕ). take n rs) all ∙ take-length rs;
        counted = omega (arith, k.count, ap length w.spoken);
        moved = k.place ∙ ap (λ (ms : List Message). place + bits_of_all ms) w.spoken;
        session_is = w.session_is;
      })
