-- The cycle of `spread::spread` and `spread::tell` meets its contracts: u has told its neighbours before the iterator's place.
-- `spread` at the falling number n calls `tell` at n - 1, and `tell` at n calls `spread` at n, so the measures are 2n and 2n + 1.
use Prim.Native.Nat.{◌+◌, ◌-◌, ◌*◌}
use Rattle.mechanism.specs.Views.{view}
use Rattle.walk.proofs.Sends.{Partly}
use Rattle.aggregate.specs.inner.Rounds.{Round}
use Rattle.aggregate.proofs.spread.+spread_tell.Given as goal

abbrev pub decreases-spread : goal.decreases-spread
decreases-spread l = 2 * l.left

abbrev pub decreases-tell : goal.decreases-tell
decreases-tell l = 2 * l.left + 1

abbrev pub invariant-spread-loop-w : goal.invariant-spread-loop-w
invariant-spread-loop-w l = Round l.ground.links.now l.ground.session.now.tree l.u l.w-iterator × Partly (view l.ground.session.now) (l.left - 1) l.u l.from l.told l.w-iterator.place l.initial.trace l.sum l.trace
