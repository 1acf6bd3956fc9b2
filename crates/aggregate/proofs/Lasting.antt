-- What lasts while a list runs: answer places of combines that are not done, and soundness.
use mathlib.Core.Path.{◌≡◌, refl, ◌∙◌}
use Prim.Native.Nat.{ℕ, ◌≤◌}
use native.Mathlib.Omega.{arith}
use lib.IntN.{pos}
use lib.ListN.{length, get_or}
use lib.Seq.{get_or-set_other}
use Rattle.requests.specs.Lists.{Sized}
use Rattle.requests.specs.Reading.{requests_of}
use Rattle.requests.specs.declared.Request.{Request}
use Rattle.requests.specs.declared.Request.TheVariants.{Combine, Write}
use Rattle.requests.proofs.Runs.{read_sized}
use Rattle.session.specs.Holding.{Typed}
use Rattle.session.specs.Soundness.{Sound}
use Rattle.aggregate.specs.Running.{Running, start, in_turn, done}
use Rattle.aggregate.specs.Promises.{AnswersKept, RunSound}
use Rattle.aggregate.proofs.Keeping.{sessions_sound}
use Rattle.aggregate.proofs.Runs.{stored_length, along}
use Rattle.aggregate.proofs.Listing.{either, ran_whole, answers_whole, ran_is, answers_are}

-- ---- answer places

pub record Answers (o o' : Running) : Type 0 where
  pub more : o.totals.answers ≤ o'.totals.answers
  pub long : length o'.answers ≡ length o.answers
  pub kept : (k : ℕ) → o'.totals.answers ≤ k → get_or o'.answers k (pos 0) ≡ get_or o.answers k (pos 0)

answers_more : (r : Request) (o o' : Running) → Sized r → (in_turn r o).outcome.refusal ≡ 0 → Answers (done r o) o' → Answers o o'
unfolding done
answers_more (Combine x) o o' sized e a =
    let z = (in_turn (Combine x) o).outcome.answer in
    record {
      more = omega (arith, a.more);
      long = a.long ∙ stored_length (Combine x) z o.totals.answers o.answers;
      kept = λ k h. a.kept k h ∙ get_or-set_other o.answers o.totals.answers k z (pos 0) (omega (arith, a.more, h));
    }
answers_more (Write x v) o o' sized e a = record { more = omega (arith, a.more); long = a.long; kept = a.kept }

pub answers_kept : AnswersKept
answers_kept s list answers log place k h = either s list answers log place
    (λ e. let a = along Answers (λ o. record { more = omega arith; long = refl; kept = λ i j. refl }) answers_more (requests_of list) (start s answers log place) (read_sized list) in
    rw (answers_are s list answers log place e) (a.kept k (rw (ran_is s list answers log place e) at h), a.long))
    (λ l. rw (answers_whole s list answers log place l) (refl, refl))

-- ---- the session

abbrev Fine : Running → Type 0
Fine o = Typed o.session × Sound 2 o.session

pub fine_next : (r : Request) (o : Running) → Sized r → Fine o → Fine (done r o)
unfolding done
fine_next r o sized f = sessions_sound o.session r (length o.log) o.totals.next f.0 f.1 sized.1

pub run_sound : RunSound
run_sound s list answers log place typed holds = either s list answers log place
    (λ e. rw (ran_is s list answers log place e) (along (λ o o'. Fine o → Fine o') (λ o f. f) (λ r o o' sized i rest f. rest (fine_next r o sized f)) (requests_of list) (start s answers log place) (read_sized list) (typed, holds)))
    (λ l. rw (ran_whole s list answers log place l) (typed, holds))
