-- `write` meets its contract: each refusal leaves the output, and the table is written over zeros.
use mathlib.Core.Path.{sym, ◌∙◌}
use native.Mathlib.Omega.{arith}
use Rattle.tree.proofs.InRule.{in_rule_exactly}
use Rattle.table.proofs.Stores.{out_of_rule, too_short, ready, written}
use Rattle.table.proofs.write.Goals as goal

pub returns-then-not-in_rule : goal.returns-then-not-in_rule
returns-then-not-in_rule c = out_of_rule _ _ (sym c.in_rule.ensures ∙ c.if-not-in_rule.true)

pub table_size-bytes-requires : goal.table_size-bytes-requires
table_size-bytes-requires c = let r = (in_rule_exactly _ _).0 (sym c.in_rule.ensures ∙ c.if-not-in_rule.false) in (omega (arith, r.some), omega (arith, r.few))

pub returns-then-out-bytes : goal.returns-then-out-bytes
returns-then-out-bytes c = too_short _ _ (sym c.in_rule.ensures ∙ c.if-not-in_rule.false) _ c.from-count.ensures _ c.table_size-bytes.ensures (omega arith)

pub parents-requires : goal.parents-requires
parents-requires c =
    let r = ready _ _ (sym c.in_rule.ensures ∙ c.if-not-in_rule.false) _ c.from-count.ensures _ c.table_size-bytes.ensures
    c.if-out-bytes.false _ _ (c.fill.ensures.after (λ y e. e)) _ c.from.ensures c.put.ensures.1 in
    rw c.from-count.ensures at r

pub returns : goal.returns
returns c =
    written _ _ (sym c.in_rule.ensures ∙ c.if-not-in_rule.false) _ c.from-count.ensures _ c.table_size-bytes.ensures
    c.if-out-bytes.false _ _ (c.fill.ensures.after (λ y e. e)) _ c.from.ensures c.put.ensures.1 _ (rw c.from-count.ensures c.parents.ensures)
