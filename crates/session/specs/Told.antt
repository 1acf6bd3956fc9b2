-- What starting a session tells: 0 and the session, or the number of a refusal and the session that is left.
use Rattle.std.specs.Prelude.{ℕ, Result, Ok, Err}
use Rattle.refusal.specs.Numbers.{number}
use Rattle.refusal.specs.declared.Refusal.{Refusal}
use Rattle.session.specs.declared.Session.{Session}

pub record Started : Type 0 where
  pub refusal : ℕ
  pub session : Session

-- where starting is refused, the session s is left
abbrev pub told_started : Session → Result Session Refusal → Started
told_started s (Ok t) = record { refusal = 0; session = t }
told_started s (Err r) = record { refusal = number r; session = s }
