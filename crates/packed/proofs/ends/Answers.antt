-- `ends` meets its contract: the filling bits lie in the bytes, and are judged as the definition does.
use mathlib.Core.Path.{sym, ◌∙◌}
use native.Mathlib.Omega.{arith}
use Rattle.packed.proofs.Filling.{ends_there, ends_as}
use Rattle.packed.proofs.ends.Goals as goal

pub returns-in-Err : goal.returns-in-Err
returns-in-Err c = absurd (ends_there _ _ (omega arith) (omega arith) _ (omega arith) _ (sym c.get.ensures ∙ c.in-Err.is))

pub returns-in-Ok : goal.returns-in-Ok
returns-in-Ok c = ends_as _ _ (omega arith) (omega arith) _ (omega arith) _ (sym c.get.ensures ∙ c.in-Ok.is)
