-- `serve::request` meets its contract: unless it is refused, the act is begun and walked, and its messages are logged, applied and settled.
use mathlib.Core.Path.{◌≡◌, refl, sym, ap, ◌∙◌}
use mathlib.Core.List.{List}
use Prim.Native.Nat.{ℕ, ◌<◌}
use native.Mathlib.Omega.{arith}
use lib.IntN.{pos}
use lib.ListN.{get_or, length}
use mir.Facts.{to_z-of_z}
use mir.Syntax.{w32, w64}
use borrow.Author.Rules.{rules}
use Rattle.std.specs.Prelude.{Result}
use Rattle.std.proofs.lemmas.Result.{err_from_is_err_and}
use Rattle.refusal.specs.Numbers.{number}
use Rattle.refusal.specs.declared.Refusal.{Refusal}
use Rattle.refusal.proofs.Numbers.{numbers_within}
use Rattle.tree.specs.Operation.{sum}
use Rattle.messages.specs.declared.Message.{Message}
use Rattle.requests.specs.Lists.{node_of}
use Rattle.requests.specs.declared.Request.{Request}
use Rattle.mechanism.specs.Combining.{Said}
use Rattle.mechanism.specs.Requests.{says}
use Rattle.mechanism.specs.Views.{view}
use Rattle.session.specs.declared.Session.{Session}
use Rattle.trace.specs.declared.Trace.{Trace}
use Rattle.trace.specs.inner.Traces.{messages_of, trace, pushed_all, logged_of, log_after_all}
use Rattle.aggregate.specs.inner.Acts.{request_of, begun_of, settled_of, counted, Walked, early_refusal}
use Rattle.aggregate.proofs.Paid.{counts_paid}
use Rattle.aggregate.proofs.Judging.{Ready, ready}
use Rattle.aggregate.proofs.Ending.{Spoken, spoken, ends_early, ends_full, ends_well}
use Rattle.aggregate.proofs.Acting.{node_of_lem, hit_of, walkable, says_walked, restored_of, refused_in_place, climbing, settled}
use Rattle.aggregate.proofs.serve.request.Goals as goal
use Rattle.aggregate.proofs.serve.request.Goals.{In_ok-early, After-walk-answer, After-apply}

-- past the tests, where none refused it
module _ (e : In_ok-early) where
  may : Ready e.args.session.now e.args.x
  may = ready e.args.session.now e.requires.holds e.args.x (sym e.in_ok-early.ensures)

  place : e.args.x < 256
  place = omega (arith, may.inside, may.holds.tree_in_rule.few)

-- what was walked
module _ (w : After-walk-answer) where
  abbrev of : Session
  of = w.args.session.now

  abbrev due : Request
  due = request_of w.args.x w.args.act

  ready_due : Ready of (node_of due)
  ready_due = rw (node_of_lem w.args.x w.args.act) (ready of w.requires.holds w.args.x (sym w.in_ok-early.ensures))

  abbrev left : Trace
  left = w.walk-answer.new.trace

  abbrev messages : List Message
  messages = messages_of left.numbers left.len

  went : Walked w.args.act (view (begun_of of w.args.x w.args.act)) w.args.x w.walk-answer.result (trace w.args.trace.now.numbers 0) left
  went = rw w.begin.ensures.0 at w.walk-answer.ensures

  sums : w.walk-answer.result ≡ (says sum of due).sum
  sums = went.sums ∙ ap (λ (q : Said). q.sum) (says_walked of w.args.x w.args.act)

  said : Spoken of due left.numbers left.len
  said =
      spoken of due w.args.trace.now.numbers left.numbers left.len w.requires.typed w.begin.ensures.1 ready_due went.room
      (went.logs ∙ ap (λ (q : Said). pushed_all q.log (trace w.args.trace.now.numbers 0)) (says_walked of w.args.x w.args.act))

  -- what was answered and logged
  told : (answer : Result ℕ Refusal) → answer ≡ logged_of (length w.args.log.now) w.args.place messages → answer ≡ logged_of (length w.args.log.now) w.args.place (says sum of due).log
  told answer e = e ∙ ap (logged_of (length w.args.log.now) w.args.place) said.holds

  logs : (log : List ℕ) → log ≡ log_after_all w.args.log.now w.args.place messages → log ≡ log_after_all w.args.log.now w.args.place (says sum of due).log
  logs log e = e ∙ ap (log_after_all w.args.log.now w.args.place) said.holds

-- what was applied
hit : (a : After-apply) → a.apply.new.session ≡ hit_of a.args.session.now a.args.x a.args.act (messages_of a.walk-answer.new.trace.numbers a.walk-answer.new.trace.len)
hit a = rw a.begin.ensures.0 at a.apply.ensures

pub returns-in_err-early : goal.returns-in_err-early
returns-in_err-early c =
    let s = c.args.session.now in
    let r = c.in_err-early.field-0.0 in
    let p = err_from_is_err_and c.from_residual.result c.from_residual.ensures.1 in
    let n = c.in_err-early.ensures ∙ ap (early_refusal s.tree.count s.accepted) (sym (node_of_lem c.args.x c.args.act)) in
    rw (p.1, p.2) (ends_early s (request_of c.args.x c.args.act) c.args.log.now c.args.place c.requires.holds (number r) n (λ e. omega (arith, e, (numbers_within r).0)))

pub offset_bounds-session-x : goal.offset_bounds-session-x
offset_bounds-session-x c = omega (arith, place (goal.at.offset_bounds-session-x c).In_ok-early)

pub bounds-session-x : goal.bounds-session-x
bounds-session-x c = place (goal.at.bounds-session-x c).In_ok-early

pub begin-requires : goal.begin-requires
begin-requires c = place (goal.at.begin-requires c).In_ok-early

pub walk-answer-requires : goal.walk-answer-requires
walk-answer-requires c =
    let e = (goal.at.walk-answer-requires c).In_ok-early in
    rw c.begin.ensures.0 (walkable c.args.session.now c.args.x c.args.act c.requires (may e).inside c.begin.ensures.1)

pub offset_bounds-session-x-in_default : goal.offset_bounds-session-x-in_default
offset_bounds-session-x-in_default c = omega (arith, place (goal.at.offset_bounds-session-x-in_default c).In_ok-early)

pub bounds-session-x-in_default : goal.bounds-session-x-in_default
bounds-session-x-in_default c = place (goal.at.bounds-session-x-in_default c).In_ok-early

pub returns-in_default : goal.returns-in_default
returns-in_default c =
    let w = (goal.at.returns-in_default c).After-walk-answer in
    let s = c.args.session.now in
    let back = restored_of s c.args.x c.args.act c.begin.ensures.0 (to_z-of_z {w = w32} {z = get_or s.values c.args.x (pos 0)} (search rules)) in
    let e = ends_full s (due w) c.args.log.now c.args.place (ready_due w) (said w).fit _ (told w _ c.log.ensures.0) _ (logs w _ c.log.ensures.1) c.in_default.is in
    (refused_in_place s _ 9 _ refl back e.0, e.1)

pub apply-requires : goal.apply-requires
apply-requires c = rw c.begin.ensures.0 (counts_paid c.args.session.now c.requires.holds c.requires.typed.up_long.counts c.requires.typed.down_long.counts)

pub settle-requires : goal.settle-requires
settle-requires c =
    let e = (goal.at.settle-requires c).In_ok-early in
    let w = (goal.at.settle-requires c).After-walk-answer in
    rw (hit (goal.at.settle-requires c).After-apply) (climbing c.args.session.now c.args.x c.args.act (messages w) c.requires.typed c.requires.holds (may e).inside)

pub overflow_cast-result : goal.overflow_cast-result
overflow_cast-result c = let few = (said (goal.at.overflow_cast-result c).After-walk-answer).few in omega (arith, few)

pub returns : goal.returns
returns c =
    let w = (goal.at.returns c).After-walk-answer in
    let s = c.args.session.now in
    let m = messages w in
    ends_well s (due w) c.args.log.now c.args.place (ready_due w) (said w).fit _ (told w _ c.log.ensures.0) _ (logs w _ c.log.ensures.1) _ _ _ _
    (to_z-of_z {w = w64} {z = c.walk-answer.result} (search rules) ∙ sums w)
    (said w).long
    c.in-Ok.is
    (ap counted (c.settle.ensures ∙ ap (λ (t : Session). settled_of t c.args.x c.args.act) (hit (goal.at.returns c).After-apply)) ∙ settled s c.args.x c.args.act m (said w).holds)
