-- `Later::lay` meets its contract: the nodes from i on are passed.
use Rattle.mechanism.specs.Views.{view}
use Rattle.walk.proofs.Passes.{Passes}
use Rattle.aggregate.proofs.later.Later.lay.Given as goal

abbrev pub invariant-loop-i : goal.invariant-loop-i
invariant-loop-i l = Passes (view l.session) l.x l.self.up l.self.down l.at l.i
