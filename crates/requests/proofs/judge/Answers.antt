-- `judge` meets its contract: the count is too large, or in rule, and then the requests decide.
use mathlib.Core.Path.{sym}
use native.Mathlib.Omega.{arith}
use Rattle.requests.proofs.Walk.{count_many, counted}
use Rattle.requests.proofs.judge.Goals as goal

pub returns-then-count-gt4096 : goal.returns-then-count-gt4096
returns-then-count-gt4096 c = sym (count_many _ _ (sym c.in_ok-count.ensures) (omega arith))

pub requests-requires : goal.requests-requires
requests-requires c = counted _ _ (sym c.in_ok-count.ensures) (omega arith)
