-- `turns::whole` meets its contract: what is still due comes to what the whole list comes to.
use mathlib.Core.Path.{◌≡◌, refl, sym, ap, ◌∙◌}
use Prim.Native.Nat.{◌+◌, ◌<◌, ◌≤◌}
use native.Mathlib.Omega.{arith}
use borrow.Author.Rules.{rules}
use lib.ListN.{length}
use mir.Facts.{to_z-of_z}
use mir.Syntax.{w64}
use Rattle.refusal.proofs.Numbers.{numbers_within}
use Rattle.requests.specs.Reading.{item_at}
use Rattle.requests.specs.declared.Request.{Request}
use Rattle.std.specs.Prelude.{Ok}
use Rattle.session.proofs.Typing.{typed}
use Rattle.aggregate.specs.Running.{running}
use Rattle.aggregate.specs.Serving.{served_of, log_of}
use Rattle.aggregate.specs.inner.Acts.{request_of}
use Rattle.aggregate.specs.declared.Totals.{Totals}
use Rattle.aggregate.proofs.Wholly.{Runnable, runnable_by, ends, stops}
use Rattle.aggregate.proofs.Underway.{underway_first, underway_next, placed_now, addable, never_short, ends_refused, ends_all}
use Rattle.aggregate.proofs.turns.whole.Goals as goal
use Rattle.aggregate.proofs.turns.whole.Goals.{Start, After-request-served}

starts : (s : Start) → Runnable s.args.session s.args.list.now (length s.args.answers.now)
starts s = runnable_by s.args.session s.args.list.now _ s.requires.accepted

-- where a turn is
module _ (a : After-request-served) where
  more : a.loop-index.totals.requests < a.args.judged.requests
  more = omega (arith, a.loop-index.invariant.0)

  abbrev due : Request
  due = a.in-Ok.request

  found : item_at a.args.list.now a.loop-index.at ≡ Ok (due, a.in-Ok.after)
  found = sym a.request_at.ensures ∙ a.in-Ok.is

  -- what was due is what was served
  served : served_of a.loop-index.session (request_of a.of-x.result.0 a.of-x.result.1) (length a.loop-index.log) a.loop-index.totals.next ≡ served_of a.loop-index.session due (length a.loop-index.log) a.loop-index.totals.next
  served = ap (λ (r : Request). served_of a.loop-index.session r (length a.loop-index.log) a.loop-index.totals.next) a.of-x.ensures

  logged : a.request-served.new.log ≡ log_of a.loop-index.session due a.loop-index.log a.loop-index.totals.next
  logged = a.request-served.ensures.1 ∙ ap (λ (r : Request). log_of a.loop-index.session r a.loop-index.log a.loop-index.totals.next) a.of-x.ensures

pub of-links-requires : goal.of-links-requires
of-links-requires c = let r = (starts (goal.at.of-links-requires c).Start).holds.tree_in_rule in (r.some, (r.few, r.grown))

pub loop-index-init : goal.loop-index-init
loop-index-init c = (refl, underway_first _ c.args.list.now c.args.answers.now c.args.log.now c.args.place _ _ (typed c.args.session _ c.well_formed.0) c.requires)

pub returns-in_default : goal.returns-in_default
returns-in_default c =
    let l : c.loop-index.totals.requests < c.args.judged.requests = omega (arith, c.loop-index.invariant.0) in
    absurd (never_short c.loop-index.invariant.1 l _ (sym c.request_at.ensures ∙ c.in_default.is))

pub store-stored-requires : goal.store-stored-requires
store-stored-requires c = let a = (goal.at.store-stored-requires c).After-request-served in placed_now c.loop-index.invariant.1 (more a) (found a)

pub added-totals-requires : goal.added-totals-requires
added-totals-requires c =
    let a = (goal.at.added-totals-requires c).After-request-served in
    addable c.loop-index.invariant.1 (more a) (due a) (c.in-Ok-served.ensures.0 ∙ served a) c.store-stored.ensures.0

pub returns-in-Err : goal.returns-in-Err
returns-in-Err c =
    let a = (goal.at.returns-in-Err c).After-request-served in
    let o = running c.loop-index.totals c.request-served.new.session c.loop-index.answers c.request-served.new.log in
    let e = ends_refused c.loop-index.invariant.1 (more a) (found a) (c.in-Err.ensures.0 ∙ served a) (logged a) (λ z. omega (arith, z, (numbers_within c.in-Err.refusal).0)) in
    stops c.args.session c.args.list.now c.args.answers.now c.args.log.now c.args.place c.requires.accepted c.in-Err.refusal c.loop-index.index o c.loop-index.invariant.0 e

pub loop-index-preserved : goal.loop-index-preserved
loop-index-preserved c =
    let a = (goal.at.loop-index-preserved c).After-request-served in
    let is : c.added-totals.result.requests ≡ c.loop-index.totals.requests + 1 = ap (λ (t : Totals). t.requests) c.added-totals.ensures in
    let answered = to_z-of_z {w = w64} {z = c.in-Ok-served.outcome.answer} (search rules) in (
      omega (arith, c.loop-index.invariant.0),
      underway_next c.loop-index.invariant.1 (more a) (found a) (c.in-Ok-served.ensures.0 ∙ served a) (logged a) refl c.store-stored.ensures.0 c.added-totals.ensures answered c.store-stored.ensures.1,
    )

pub returns : goal.returns
returns c =
    let l : c.args.judged.requests ≤ c.loop-index.totals.requests = omega (arith, c.loop-index.invariant.0) in
    ends c.args.session c.args.list.now c.args.answers.now c.args.log.now c.args.place c.requires.accepted 0 _ (ends_all c.loop-index.invariant.1 l)
