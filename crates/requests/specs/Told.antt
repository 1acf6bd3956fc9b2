-- What judging a list tells: its refusal's number with zeros, or 0 with what the list has.
use Rattle.std.specs.Prelude.{ℕ, Result, Ok, Err}
use Rattle.refusal.specs.Numbers.{number}
use Rattle.refusal.specs.declared.Refusal.{Refusal}
use Rattle.requests.specs.declared.Judged as declared

-- the number of a refusal, 0 where the list is accepted; how many requests it has, how many of them are combines, and the place of the first
pub record Judged : Type 0 where
  pub refusal : ℕ
  pub requests : ℕ
  pub combines : ℕ
  pub first : ℕ

abbrev pub told_judged : Result declared.Judged Refusal → Judged
told_judged (Ok list) = record { refusal = 0; requests = list.requests; combines = list.combines; first = list.first }
told_judged (Err r) = record { refusal = number r; requests = 0; combines = 0; first = 0 }
