-- `serve::whole` meets its contract: 6 where the session is unsound, and else the request is served.
use mathlib.Core.Path.{◌≡◌, sym, ◌∙◌}
use mathlib.Core.Bool.{true, false}
use borrow.Author.Rules.{rules}
use lib.ListN.{length}
use Rattle.std.proofs.lemmas.Result.{err_from_is_err_and}
use Rattle.refusal.proofs.Numbers.{numbers_within}
use Rattle.session.specs.Soundness.{Sound}
use Rattle.session.proofs.Soundly.{sound_exactly}
use Rattle.session.proofs.Typing.{typed}
use Rattle.aggregate.specs.inner.Acts.{request_of}
use Rattle.aggregate.proofs.Ending.{ends_unsound}
use Rattle.aggregate.proofs.Verdicts.{refused_as}
use Rattle.aggregate.proofs.serve.whole.Goals as goal
use Rattle.aggregate.proofs.serve.whole.Goals.{After-is_sound}

holds : (p : After-is_sound) → p.is_sound.result ≡ true → Sound 2 p.args.session
holds p tested = (sound_exactly 2 p.args.session).0 (sym p.is_sound.ensures ∙ tested)

pub returns-then-not-is_sound : goal.returns-then-not-is_sound
returns-then-not-is_sound c =
    let tested : c.is_sound.result ≡ false = search rules in
    ends_unsound c.args.session (request_of c.args.x c.args.act) c.args.log.now c.args.place (sym c.is_sound.ensures ∙ tested)

pub tested-requires-clause-typed : goal.tested-requires-clause-typed
tested-requires-clause-typed c = typed c.args.session _ c.well_formed.0

pub tested-requires-clause-holds : goal.tested-requires-clause-holds
tested-requires-clause-holds c = holds (goal.at.tested-requires-clause-holds c).After-is_sound (search rules)

pub returns-in_err-outcome : goal.returns-in_err-outcome
returns-in_err-outcome c =
    let p = err_from_is_err_and c.from_residual.result c.from_residual.ensures.1 in
    let e = c.in_err-outcome.ensures in
    rw (p.1, p.2) (refused_as c.args.session (request_of c.args.x c.args.act) (length c.args.log.now) c.args.place e.0 (numbers_within c.in_err-outcome.field-0.0).0, e.1)
