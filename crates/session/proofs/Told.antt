-- What is told of a start leaves one answer.
use mathlib.Core.Path.{◌≡◌, ap}
use native.Mathlib.Omega.{arith}
use Rattle.std.specs.Prelude.{Result, Ok, Err}
use Rattle.refusal.specs.declared.Refusal.{Refusal}
use Rattle.refusal.proofs.Numbers.{numbers_apart, numbers_within}
use Rattle.session.specs.Told.{Started, told_started}
use Rattle.session.specs.declared.Session.{Session}

pub started_apart : (s : Session) (a b : Result Session Refusal) → told_started s a ≡ told_started s b → a ≡ b
started_apart s (Ok a) (Ok b) e = ap Ok (ap (λ (t : Started). t.session) e)
started_apart s (Ok a) (Err b) e = absurd (omega (arith, ap (λ (t : Started). t.refusal) e, numbers_within b))
started_apart s (Err a) (Ok b) e = absurd (omega (arith, ap (λ (t : Started). t.refusal) e, numbers_within a))
started_apart s (Err a) (Err b) e = ap Err (numbers_apart a b (ap (λ (t : Started). t.refusal) e))
