-- `run` meets its contract: a list that is not refused as a whole is run, request by request.
use mathlib.Core.Path.{◌≡◌, refl, sym, ◌∙◌}
use mathlib.Core.Bool.{true, false}
use lib.ListN.{length}
use Prim.Native.Nat.{◌≤◌}
use native.Mathlib.Omega.{arith}
use borrow.Author.Rules.{rules}
use Rattle.std.proofs.lemmas.Result.{err_from_is_err_and}
use Rattle.refusal.proofs.Numbers.{numbers_within}
use Rattle.aggregate.specs.inner.Turns.{Starting}
use Rattle.aggregate.proofs.Wholly.{ends_unread, ends_few_places, ends_unsound, starting}
use Rattle.aggregate.proofs.run.Goals as goal
use Rattle.aggregate.proofs.run.Goals.{After-is_sound}

-- past the tests
begins : (p : After-is_sound) → p.is_sound.result ≡ true
    → Starting p.args.session p.args.list.now (length p.args.answers.now) p.in_ok-judged.judged.requests p.in_ok-judged.judged.first
begins p tested =
    let enough : p.in_ok-judged.judged.combines ≤ length p.args.answers.now = omega arith in
    starting p.args.session p.args.list.now p.args.answers.now p.args.log.now p.args.place _ p.in_ok-judged.ensures refl enough (sym p.is_sound.ensures ∙ tested)

pub returns-in_err-judged : goal.returns-in_err-judged
returns-in_err-judged c =
    let p = err_from_is_err_and c.from_residual.result c.from_residual.ensures.1 in
    let r = c.in_err-judged.field-0.0 in
    rw (p.1, p.2) (ends_unread c.args.session c.args.list.now c.args.answers.now c.args.log.now c.args.place _ c.in_err-judged.ensures (λ z. omega (arith, z, (numbers_within r).0)))

pub returns-then-answers-judged : goal.returns-then-answers-judged
returns-then-answers-judged c =
    ends_few_places c.args.session c.args.list.now c.args.answers.now c.args.log.now c.args.place _ c.in_ok-judged.ensures refl c.if-answers-judged.true

pub returns-then-not-is_sound : goal.returns-then-not-is_sound
returns-then-not-is_sound c =
    let tested : c.is_sound.result ≡ false = search rules in
    ends_unsound c.args.session c.args.list.now c.args.answers.now c.args.log.now c.args.place _ c.in_ok-judged.ensures refl c.if-answers-judged.false (sym c.is_sound.ensures ∙ tested)

pub whole-requires : goal.whole-requires
whole-requires c = begins (goal.at.whole-requires c).After-is_sound (search rules)

pub returns : goal.returns
returns c =
    let b = begins (goal.at.returns c).After-is_sound (search rules) in
    (c.whole.ensures.0, c.whole.ensures.1, c.whole.ensures.2, sym b.accepted)
