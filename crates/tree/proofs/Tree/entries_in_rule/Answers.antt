-- `Tree::entries_in_rule` meets its contract: the root's entry and the two passes together.
use Rattle.std.proofs.Common.{rules}
use Rattle.tree.proofs.InRule.{passes_say}
use Rattle.tree.proofs.Tree.entries_in_rule.Goals as goal

pub returns : goal.returns
returns c =
    let s = c.split_at.ensures in
    rw (c.grown.ensures, c.all_zero.ensures) (passes_say _ _ _ _ c.requires.some c.requires.few (search rules) (rw c.from.ensures at s.front) (rw c.from.ensures at s.back))
