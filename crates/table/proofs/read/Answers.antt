-- `read` meets its contract: past its two tests the count is there and in rule.
use borrow.Author.Rules.{rules}
use Rattle.table.proofs.Turns.{counted}
use Rattle.table.proofs.read.Goals as goal

pub nodes-requires : goal.nodes-requires
nodes-requires c = counted _ _ (search rules) (search rules) (search rules)
