-- `spread::from` meets its contract: a silent write says nothing, and else what comes after each neighbour is laid by, and the walk is that of the definition.
use Rattle.mechanism.specs.Views.{view}
use Rattle.walk.proofs.Pushing.{pushed_all-none}
use Rattle.walk.proofs.Silence.{silent_write}
use Rattle.walk.proofs.Starting.{passing, spreading_first}
use Rattle.aggregate.proofs.spread.from.Goals as goal

pub returns-then-is_silent : goal.returns-then-is_silent
returns-then-is_silent c = rw (silent_write (view c.args.ground.session.now) c.args.x c.requires.inside (c.is_silent.ensures c.if-is_silent.true), pushed_all-none)

pub lay-requires : goal.lay-requires
lay-requires c = passing c.requires.steady c.requires.inside

pub spread-requires : goal.spread-requires
spread-requires c = spreading_first c.requires.steady c.requires.inside c.requires.linked c.lay.ensures
