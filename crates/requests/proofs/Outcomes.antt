-- Each public contract leaves one outcome. It is the function's own contract, as its source states it: `Post` of its `Reads`.
use mathlib.Core.Path.{◌≡◌, sym, ap, ◌∙◌}
use native.Mathlib.Omega.{arith}
use Rattle.std.specs.Prelude.{Result, Ok, Err}
use Rattle.refusal.specs.Outcomes.{OneResult}
use Rattle.refusal.specs.declared.Refusal.{Refusal}
use Rattle.refusal.proofs.Numbers.{numbers_apart, numbers_within}
use Rattle.requests.specs.Told.{Judged, told_judged}
use Rattle.requests.specs.declared.Judged as declared
use Rattle.requests.proofs.judge.Reads as judge
use Rattle.requests.proofs.request_at.Reads as request_at

-- what is told leaves one answer
told_apart : (x y : Result declared.Judged Refusal) → told_judged x ≡ told_judged y → x ≡ y
told_apart (Ok a) (Ok b) e = λ i. Ok (record { requests = (e i).requests; combines = (e i).combines; first = (e i).first })
told_apart (Ok a) (Err r) e = absurd (omega (arith, ap (λ (j : Judged). j.refusal) e, numbers_within r))
told_apart (Err q) (Ok b) e = absurd (omega (arith, ap (λ (j : Judged). j.refusal) e, numbers_within q))
told_apart (Err q) (Err r) e = ap Err (numbers_apart q r (ap (λ (j : Judged). j.refusal) e))

pub judge_once : OneResult judge.Post
judge_once κ a x y s t p q = told_apart x y (p ∙ sym q)

pub request_at_once : OneResult request_at.Post
request_at_once κ a x y s t p q = p ∙ sym q
