-- `pass::alone` meets its contract: the nodes have 1, and no other place.
use mathlib.Core.Path.{refl}
use Rattle.tree.proofs.Listed.{ones_first}
use Rattle.tree.proofs.pass.alone.Goals as goal

pub returns : goal.returns
returns c = ones_first c.args.count _ c.fill.new.self c.requires refl (c.fill.ensures.after (λ y e. e))
