-- What is told of an answer leaves one answer.
use mathlib.Core.Path.{◌≡◌, refl, sym, ap, ap₂, ◌∙◌}
use native.Mathlib.Omega.{arith}
use Rattle.std.specs.Prelude.{Option, Some, None, Result, Ok, Err}
use Rattle.refusal.specs.Numbers.{refusal_in}
use Rattle.refusal.specs.declared.Refusal.{Refusal}
use Rattle.refusal.proofs.Numbers.{numbers_within, numbers_apart}
use Rattle.session.specs.declared.Session.{Session}
use Rattle.aggregate.specs.Told.{Served, Ran, told_served, told_stop, told_ran}
use Rattle.aggregate.specs.declared.Served as served
use Rattle.aggregate.specs.declared.Stop.{Stop}
use Rattle.aggregate.specs.declared.Totals.{Totals}
use Rattle.aggregate.specs.declared.Ran as ran

-- the answer of an accepted request
abbrev back : Served → served.Served
back v = record { outcome = record { answer = v.outcome.answer; messages = v.outcome.messages; next = v.outcome.next }; session = v.session }

pub told_served_apart : (s : Session) (a b : Result served.Served Refusal) → told_served s a ≡ told_served s b → a ≡ b
told_served_apart s (Ok a) (Ok b) e = ap (λ (v : Served). Ok (back v)) e
told_served_apart s (Ok a) (Err r) e = absurd (omega (arith, ap (λ (v : Served). v.outcome.refusal) e, (numbers_within r).0))
told_served_apart s (Err r) (Ok b) e = absurd (omega (arith, ap (λ (v : Served). v.outcome.refusal) e, (numbers_within r).0))
told_served_apart s (Err r) (Err q) e = ap Err (numbers_apart r q (ap (λ (v : Served). v.outcome.refusal) e))

stops_apart : (p q : Option Stop) (t u : Totals) (v w : Session) → told_stop p t v ≡ told_stop q u w → p ≡ q
stops_apart None None t u v w e = refl
stops_apart None (Some k) t u v w e = absurd (omega (arith, ap (λ (o : Ran). o.refusal) e, (numbers_within k.refusal).0))
stops_apart (Some k) None t u v w e = absurd (omega (arith, ap (λ (o : Ran). o.refusal) e, (numbers_within k.refusal).0))
stops_apart (Some k) (Some l) t u v w e = ap₂ (λ i r. Some (record { index = i; refusal = r })) (ap (λ (o : Ran). o.index) e) (numbers_apart k.refusal l.refusal (ap (λ (o : Ran). o.refusal) e))

totals_told : (p : Option Stop) (t : Totals) (v : Session) → (told_stop p t v).totals ≡ t
totals_told None t v = refl
totals_told (Some k) t v = refl

session_told : (p : Option Stop) (t : Totals) (v : Session) → (told_stop p t v).session ≡ v
session_told None t v = refl
session_told (Some k) t v = refl

-- that it is refused as a whole is told beside it
pub told_ran_apart : (s : Session) (a b : Result ran.Ran Refusal) → told_ran s a ≡ told_ran s b → refusal_in a ≡ refusal_in b → a ≡ b
told_ran_apart s (Ok a) (Ok b) e n =
    let t = sym (totals_told a.stopped a.totals a.session) ∙ ap (λ (o : Ran). o.totals) e ∙ totals_told b.stopped b.totals b.session in
    let v = sym (session_told a.stopped a.totals a.session) ∙ ap (λ (o : Ran). o.session) e ∙ session_told b.stopped b.totals b.session in
    ap₂ (λ p (q : Totals × Session). Ok (record { stopped = p; totals = q.0; session = q.1 })) (stops_apart a.stopped b.stopped a.totals b.totals a.session b.session e) (ap₂ (λ x y. (x, y)) t v)
told_ran_apart s (Ok a) (Err r) e n = absurd (omega (arith, n, (numbers_within r).0))
told_ran_apart s (Err r) (Ok b) e n = absurd (omega (arith, n, (numbers_within r).0))
told_ran_apart s (Err r) (Err q) e n = ap Err (numbers_apart r q n)
