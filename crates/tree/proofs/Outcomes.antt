-- Each public contract leaves one outcome. It is the function's own contract, as its source states it: `Post` of its `Reads`.
use mathlib.Core.Path.{sym, ◌∙◌}
use Rattle.refusal.specs.Outcomes.{OneResult}
use Rattle.tree.proofs.Tree.in_rule.Reads as in_rule
use Rattle.tree.proofs.Tree.neighbours.Reads as neighbours
use Rattle.tree.proofs.Tree.is_below.Reads as is_below
use Rattle.tree.proofs.Tree.sizes.Reads as sizes

pub in_rule_once : OneResult in_rule.Post
in_rule_once κ a x y s t p q = p ∙ sym q

pub neighbours_once : OneResult neighbours.Post
neighbours_once κ a x y s t p q = p ∙ sym q

pub is_below_once : OneResult is_below.Post
is_below_once κ a x y s t p q = p ∙ sym q

pub sizes_once : OneResult sizes.Post
sizes_once κ a x y s t p q = p ∙ sym q
