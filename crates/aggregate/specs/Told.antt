-- What a request and a list answer, in document 01's numbers: 0 and the values, or the number of a refusal and zeros, with the session as it came.
use Rattle.std.specs.Prelude.{ℕ, ℤ, pos, Option, Some, None, Result, Ok, Err}
use Rattle.refusal.specs.Numbers.{number}
use Rattle.refusal.specs.declared.Refusal.{Refusal}
use Rattle.session.specs.declared.Session.{Session}
use Rattle.aggregate.specs.declared.Outcome as outcome
use Rattle.aggregate.specs.declared.Served as served
use Rattle.aggregate.specs.declared.Stop.{Stop}
use Rattle.aggregate.specs.declared.Totals.{Totals}
use Rattle.aggregate.specs.declared.Ran as ran

-- what a request answers: 0, the answer, its messages and the next log place; or the number of its refusal and zeros
pub record Outcome : Type 0 where
  pub refusal : ℕ
  pub answer : ℤ
  pub messages : ℕ
  pub next : ℕ

-- what a request answers, and the session after
pub record Served : Type 0 where
  pub outcome : Outcome
  pub session : Session

-- what running a list answers: 0 or the number of the refusal that ended it, the index of the request that was refused, the totals so far, and the session after
pub record Ran : Type 0 where
  pub refusal : ℕ
  pub index : ℕ
  pub totals : Totals
  pub session : Session

-- a request's answer
abbrev pub told_outcome : Result outcome.Outcome Refusal → Outcome
told_outcome (Ok o) = record { refusal = 0; answer = o.answer; messages = o.messages; next = o.next }
told_outcome (Err r) = record { refusal = number r; answer = pos 0; messages = 0; next = 0 }

-- a request's answer and the session after; where it is refused that is the session s that was handed in
abbrev pub told_served : Session → Result served.Served Refusal → Served
told_served s (Ok v) = record { outcome = told_outcome (Ok v.outcome); session = v.session }
told_served s (Err r) = record { outcome = told_outcome (Err r); session = s }

-- how far a list came
abbrev pub told_stop : Option Stop → Totals → Session → Ran
told_stop None t s = record { refusal = 0; index = 0; totals = t; session = s }
told_stop (Some k) t s = record { refusal = number k.refusal; index = k.index; totals = t; session = s }

-- a list's answer; where it is refused as a whole, zeros and the session s that was handed in
abbrev pub told_ran : Session → Result ran.Ran Refusal → Ran
told_ran s (Ok v) = told_stop v.stopped v.totals v.session
told_ran s (Err r) = record { refusal = number r; index = 0; totals = record { requests = 0; answers = 0; messages = 0; next = 0 }; session = s }
