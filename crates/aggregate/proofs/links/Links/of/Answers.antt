-- `Links::of` meets its contract: at first no node is linked.
use Rattle.walk.proofs.Linking.{linking_none}
use Rattle.aggregate.proofs.links.Links.of.Goals as goal

pub loop-i-init : goal.loop-i-init
loop-i-init c = linking_none c.requires.0
