-- What a request answers, the session it returns, and the log it leaves. The operation is the sum, the break count 2.
use Rattle.std.specs.Prelude.{cond, List, ℕ, zero, suc, ◌+◌, eqb, ℤ, pos, length}
use Rattle.tree.specs.Operation.{sum}
use Rattle.messages.specs.Writing.{logged, bits_of_all}
use Rattle.messages.specs.declared.Message.{Message}
use Rattle.requests.specs.declared.Request.{Request}
use Rattle.session.specs.declared.Session.{Session}
use Rattle.requests.specs.Lists.{node_of}
use Rattle.mechanism.specs.Requests.{says, after}
use Rattle.mechanism.specs.Refusals.{refusal_of}
use Rattle.aggregate.specs.Told.{Outcome, Served}

-- what a refused request answers: its number and zeros, and with them the session as it came
abbrev pub refused_outcome : ℕ → Outcome
refused_outcome n = record { refusal = n; answer = pos 0; messages = 0; next = 0 }

abbrev pub refused : ℕ → Session → Served
refused n s = record { outcome = refused_outcome n; session = s }

-- what an accepted request answers: 0, the answer, the messages and the next log place, and the session after
abbrev pub accepted : ℤ → List Message → ℕ → Session → Served
accepted z ms place s = record { outcome = record { refusal = 0; answer = z; messages = length ms; next = place + bits_of_all ms }; session = s }

-- what a request answers: what is done where its refusal is 0, and else the refusal
abbrev pub served : ℕ → Served → Session → Served
served zero done s = done
served (suc n) done s = refused (suc n) s

-- the refusal of a request to a log of len bytes, from place on, and what it answers
abbrev pub refusal : Session → Request → ℕ → ℕ → ℕ
refusal s r len place = refusal_of 2 s (node_of r) len place (says sum s r).log

unfoldable pub served_of : Session → Request → ℕ → ℕ → Served
served_of s r len place = served (refusal s r len place) (accepted (says sum s r).sum (says sum s r).log place (after sum 2 s r)) s

-- the log with the records of a request's messages from place on; as it was where the request is refused
unfoldable pub log_of : Session → Request → List ℕ → ℕ → List ℕ
log_of s r log place = cond (eqb (refusal s r (length log) place) 0) (logged log place (says sum s r).log) log
