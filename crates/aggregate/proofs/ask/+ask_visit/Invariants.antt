-- The cycle of `ask::ask` and `ask::visit` meets its contracts: u has asked its neighbours before the iterator's place.
-- `ask` at the falling number n calls `visit` at n - 1, and `visit` at n calls `ask` at n, so the measures are 2n and 2n + 1.
use Prim.Native.Nat.{◌+◌, ◌-◌, ◌*◌}
use Rattle.mechanism.specs.Views.{view}
use Rattle.walk.proofs.Steps.{Partly}
use Rattle.aggregate.specs.inner.Rounds.{Round}
use Rattle.aggregate.proofs.ask.+ask_visit.Given as goal

abbrev pub decreases-ask : goal.decreases-ask
decreases-ask l = 2 * l.left

abbrev pub decreases-visit : goal.decreases-visit
decreases-visit l = 2 * l.left + 1

abbrev pub invariant-ask-loop-w : goal.invariant-ask-loop-w
invariant-ask-loop-w l = Round l.ground.links.now l.ground.session.now.tree l.u l.w-iterator × Partly (view l.ground.session.now) (l.left - 1) l.u l.from l.w-iterator.place l.initial.trace l.sum l.trace
