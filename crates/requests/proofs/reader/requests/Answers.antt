-- `reader::requests` meets its contract: each turn goes one request on, and each return is what the format says.
use mathlib.Core.Path.{refl, sym}
use Rattle.requests.proofs.Walk.{went_none, went_on}
use Rattle.requests.proofs.reader.requests.Goals as goal
use Rattle.requests.proofs.reader.requests.Goals.{in-Combine, in_default}

pub loop-init : goal.loop-init
loop-init c = went_none _ _ c.requires

pub loop-preserved : goal.loop-preserved
loop-preserved c =
    went_on _ _ c.requires _ _ _ c.loop.invariant c.loop-test.true _ _ _ (sym c.in_ok-request.ensures)
    (elim c.match-matches.branch [
      | in-Combine w ↦ rw (c.from.ensures, w.matches-is, w.in-Combine.is) refl
      | in_default w ↦ rw (c.from.ensures, w.matches-is, w.in_default.is) refl
    ])
