-- A list is refused as a whole, or its requests are served one by one.
use mathlib.Core.Path.{◌≡◌, refl, sym, ap, ◌∙◌}
use mathlib.Core.Bool.{Bool, true, false, cond}
use mathlib.Core.List.{List}
use Prim.Native.Nat.{ℕ, zero, suc, ◌<◌, ◌≤◌}
use native.Mathlib.Omega.{arith}
use lib.Dec.{eqb, leb}
use lib.IntN.{ℤ}
use lib.ListN.{length, take}
use lib.Seq.{length-take-le}
use borrow.Author.Tests.{ne_eqb, leb-true, leb-false, le-leb, lt-leb}
use Rattle.tree.proofs.Cases.{lt_or_le}
use Rattle.requests.specs.Format.{Ruled}
use Rattle.requests.specs.Lists.{combines_in}
use Rattle.requests.specs.Reading.{requests_of, judged_of}
use Rattle.requests.proofs.Refusals.{list_ruled_exactly}
use Rattle.requests.proofs.Runs.{read_sized, counts_right}
use Rattle.requests.proofs.Written.{list_reads_back}
use Rattle.session.specs.Soundness.{sound}
use Rattle.session.specs.declared.Session.{Session}
use Rattle.session.proofs.Soundly.{sound_exactly}
use Rattle.aggregate.specs.Running.{start, Ended, runs, list_refusal, ended_as, refused, end_of, ran_of, answers_of, run_log_of, earlier_of, Whole, unread, few_places, unsound, starts}
use Rattle.aggregate.specs.Promises.{WholeExactly, WholeKept, OneByOne, AllDone, StopsMidway, EmptyList}
use Rattle.aggregate.specs.Told.{Ran}
use Rattle.aggregate.proofs.Runs.{serves, Reach, reach, sized_first, combines_first}
use Rattle.aggregate.proofs.Wholly.{Runnable, runnable_by, Ends, ends, ends_whole}

-- ---- refused as a whole

module _ (s : Session) (list : List ℕ) (places : ℕ) where
  read : (judged_of list).refusal ≡ 0 → (judged_of list).combines ≡ combines_in (requests_of list)
  read e = (counts_right list e).1

  whole : Whole s list places (list_refusal s list places)
  unfolding list_refusal
  whole = go (judged_of list).refusal refl (leb (judged_of list).combines places) refl (sound 2 s) refl
    where
      ruled : (n : ℕ) → (judged_of list).refusal ≡ n → Ruled list n
      ruled n = (list_ruled_exactly list n).0

      go : (n : ℕ) → (judged_of list).refusal ≡ n → (a : Bool) → leb (judged_of list).combines places ≡ a → (b : Bool) → sound 2 s ≡ b
          → Whole s list places (cond (eqb n 0) (cond a (cond b 0 6) 10) n)
      go zero e true h true i = starts (ruled 0 e) (rw (read e) at (leb-true _ places h)) i
      go zero e true h false i = unsound (ruled 0 e) (rw (read e) at (leb-true _ places h)) i
      go zero e false h b i = few_places (ruled 0 e) (rw (read e) at (leb-false _ places h))
      go (suc n) e a h b i = rw (ne_eqb (suc n) 0 (omega arith)) (unread (suc n) (omega arith) (ruled (suc n) e))

  by_rule : (n : ℕ) → Whole s list places n → list_refusal s list places ≡ n
  unfolding list_refusal
  by_rule n (unread m h r) = let e = (list_ruled_exactly list m).1 r in rw (e, ne_eqb m 0 (omega arith))
  by_rule n (few_places r h) = let e = (list_ruled_exactly list 0).1 r in rw (e, read e, lt-leb _ places h)
  by_rule n (unsound r h i) = let e = (list_ruled_exactly list 0).1 r in rw (e, read e, le-leb _ places h, i)
  by_rule n (starts r h i) = let e = (list_ruled_exactly list 0).1 r in rw (e, read e, le-leb _ places h, i)

pub whole_exactly : WholeExactly
whole_exactly s list places n = (λ e. rw (← e) (whole s list places), by_rule s list places n)

-- ---- the two ways out

module _ (s : Session) (list : List ℕ) (answers : List ℤ) (log : List ℕ) (place : ℕ) where
  abbrev number : ℕ
  number = list_refusal s list (length answers)

  pub either : {X : Type 0} → (number ≡ 0 → X) → (0 < number → X) → X
  either begun kept = lt_or_le 0 number kept (λ h. begun (omega arith))

  wholly : 0 < number → Ends s list answers log place (refused number s) answers log
  wholly h = ends_whole s list answers log place number refl (λ e. omega (arith, h))

  pub ran_whole : 0 < number → ran_of s list answers log place ≡ refused number s
  ran_whole h = sym (wholly h).0

  pub answers_whole : 0 < number → answers_of s list answers log place ≡ answers
  answers_whole h = sym (wholly h).1

  pub log_whole : 0 < number → run_log_of s list answers log place ≡ log
  log_whole h = sym (wholly h).2

  abbrev end : Ended
  end = end_of s list answers log place

  singly : number ≡ 0 → Ends s list answers log place (ended_as end.refusal end.reached.totals end.reached.session) end.reached.answers end.reached.log
  singly e = ends s list answers log place e end.refusal end.reached refl

  pub ran_is : number ≡ 0 → ran_of s list answers log place ≡ ended_as end.refusal end.reached.totals end.reached.session
  ran_is e = sym (singly e).0

  pub answers_are : number ≡ 0 → answers_of s list answers log place ≡ end.reached.answers
  answers_are e = sym (singly e).1

  pub log_is : number ≡ 0 → run_log_of s list answers log place ≡ end.reached.log
  log_is e = sym (singly e).2

pub whole_kept : WholeKept
whole_kept s list answers log place h = (ran_whole s list answers log place h, answers_whole s list answers log place h, log_whole s list answers log place h)

pub one_by_one : OneByOne
one_by_one s list answers log place e = rw (ran_is s list answers log place e, answers_are s list answers log place e, log_is s list answers log place e) (serves (requests_of list) (start s answers log place))

pub all_done : AllDone
all_done s list answers log place z = either s list answers log place
    (λ e. let r = ran_is s list answers log place e in let f = ap (λ (o : Ran). o.refusal) (sym r) ∙ z in let l = reach (requests_of list) (start s answers log place) in let a = l.all f in
    rw r (rw f, omega (arith, l.counted, a.0), omega (arith, a.1)))
    (λ h. absurd (omega (arith, h, ap (λ (o : Ran). o.refusal) (sym (ran_whole s list answers log place h)) ∙ z)))

-- where a request is refused, its index is the number of those done
module _ (s : Session) (list : List ℕ) (answers : List ℤ) (log : List ℕ) (place k : ℕ)
    (begun : list_refusal s list (length answers) ≡ 0) (refusing : 0 < (ran_of s list answers log place).refusal) (index : (ran_of s list answers log place).index ≡ k) where
  came : Reach (requests_of list) (start s answers log place) (end s list answers log place).refusal (end s list answers log place).reached
  came = reach (requests_of list) (start s answers log place)

  ended_there : 0 < (end s list answers log place).refusal
  ended_there = rw (ran_is s list answers log place begun) at refusing

  done_are : (end s list answers log place).reached.totals.requests ≡ k
  done_are = rw (ran_is s list answers log place begun, ne_eqb (end s list answers log place).refusal 0 (omega (arith, ended_there))) at index

  before : k < length (requests_of list)
  before = omega (arith, done_are, came.counted, came.short ended_there)

  runnable : Runnable s list (length answers)
  runnable = runnable_by s list (length answers) begun

  -- the list of those alone
  read_as : ((judged_of (earlier_of list k)).refusal ≡ 0) × (requests_of (earlier_of list k) ≡ take k (requests_of list))
  read_as = list_reads_back (take k (requests_of list)) (sized_first k (requests_of list) (read_sized list))
      (omega (arith, before, runnable.few, (counts_right list runnable.read).0, length-take-le k (requests_of list) (omega (arith, before))))

  fewer : combines_in (requests_of (earlier_of list k)) ≤ length answers
  fewer = rw read_as.1 (omega (arith, runnable.enough, (counts_right list runnable.read).1, combines_first k (requests_of list)))

  earlier_begun : list_refusal s (earlier_of list k) (length answers) ≡ 0
  earlier_begun = (whole_exactly s (earlier_of list k) (length answers) 0).1 (starts ((list_ruled_exactly (earlier_of list k) 0).0 read_as.0) fewer ((sound_exactly 2 s).1 runnable.holds))

  earlier_end : end_of s (earlier_of list k) answers log place ≡ record { refusal = 0; reached = (end s list answers log place).reached }
  earlier_end =
      let e : k ≡ came.k = omega (arith, done_are, came.counted) in
      ap (λ rs. runs rs (start s answers log place)) (read_as.1 ∙ ap (λ (k : ℕ). take k (requests_of list)) e) ∙ came.alone

pub stops_midway : StopsMidway
stops_midway s list answers log place k begun refusing index =
    let e = earlier_begun s list answers log place k begun refusing index in
    let i = earlier_end s list answers log place k begun refusing index in
    let r = ran_is s list answers log place begun in
    let read = read_as s list answers log place k begun refusing index in (
      ap (λ (o : Ran). o.totals.requests) r ∙ done_are s list answers log place k begun refusing index,
      before s list answers log place k begun refusing index,
      read.0,
      read.1,
      ran_is s (earlier_of list k) answers log place e ∙ rw (i, r),
      answers_are s (earlier_of list k) answers log place e ∙ ap (λ (o : Ended). o.reached.answers) i ∙ sym (answers_are s list answers log place begun),
      log_is s (earlier_of list k) answers log place e ∙ ap (λ (o : Ended). o.reached.log) i ∙ sym (log_is s list answers log place begun),
    )

pub empty_list : EmptyList
unfolding runs
empty_list s list answers log place none e = (
  ran_is s list answers log place e ∙ rw none,
  answers_are s list answers log place e ∙ rw none,
  log_is s list answers log place e ∙ rw none,
)
