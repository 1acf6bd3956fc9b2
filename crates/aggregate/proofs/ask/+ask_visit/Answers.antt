-- The cycle of `ask::ask` and `ask::visit` meets its contracts: each step of the walk is a law of it.
use mathlib.Core.Path.{refl, sym, ◌∙◌}
use native.Mathlib.Omega.{arith}
use mir.Syntax.{w64}
use mir.Facts.{to_z-of_z}
use Rattle.messages.proofs.Parts.{handed_on}
use Rattle.walk.proofs.Steps.{visited_back, kept_fits, visited_kept, asked_fits, visited_asked, partly_first, partly_next, told_none, told_all, visiting}
use Rattle.aggregate.proofs.Rounds.{round_on, turned, ended}
use Rattle.aggregate.proofs.ask.+ask_visit.Goals as goal

pub ask-returns-then-left-eq0 : goal.ask-returns-then-left-eq0
ask-returns-then-left-eq0 t c = told_none c.if-left-eq0.true (handed_on _ c.value-sum.type_inv ∙ c.value-sum.ensures)

pub ask-loop-w-init : goal.ask-loop-w-init
ask-loop-w-init t c =
    let n = c.neighbours-w-items.ensures in
    rw c.into_iter-w-iterator.ensures.into_iter_gives (n.round, partly_first n.first (handed_on _ c.value-sum.type_inv ∙ c.value-sum.ensures))

pub ask-visit-sum-requires : goal.ask-visit-sum-requires
ask-visit-sum-requires t c =
    let i = c.loop-w.invariant in
    (omega arith, visiting (turned i.0 c.in-Some.ensures.steps) c.requires i.1)

pub ask-loop-w-preserved : goal.ask-loop-w-preserved
ask-loop-w-preserved t c =
    let i = c.loop-w.invariant in
    let g = c.in-Some.ensures.steps in
    (round_on i.0 g.0, partly_next (turned i.0 g) i.1 (rw (sym (handed_on c.visit-sum.result c.visit-sum.type_inv)) at c.visit-sum.ensures))

pub ask-returns : goal.ask-returns
ask-returns t c =
    let i = c.loop-w.invariant in
    told_all c.if-left-eq0.false (ended i.0 c.in-None.ensures.steps) i.1

pub visit-returns-then-w-from : goal.visit-returns-then-w-from
visit-returns-then-w-from t c = rw (to_z-of_z c.ranges.sum) (visited_back c.if-w-from.true)

pub visit-overflow_add-result : goal.visit-overflow_add-result
visit-overflow_add-result t c =
    rw (to_z-of_z c.ranges.sum, handed_on c.cache.result c.cache.type_inv) (kept_fits c.requires c.if-w-from.false c.lease.ensures c.if-lease-ne0.true c.cache.ensures)

pub visit-returns-then-lease-ne0 : goal.visit-returns-then-lease-ne0
visit-returns-then-lease-ne0 t c =
    rw (to_z-of_z c.ranges.sum, handed_on c.cache.result c.cache.type_inv, to_z-of_z {w = w64} (kept_fits c.requires c.if-w-from.false c.lease.ensures c.if-lease-ne0.true c.cache.ensures))
    (visited_kept c.requires c.if-w-from.false c.lease.ensures c.if-lease-ne0.true c.cache.ensures refl)

pub visit-overflow_add-result-2 : goal.visit-overflow_add-result-2
visit-overflow_add-result-2 t c =
    rw (to_z-of_z c.ranges.sum, handed_on c.ask-heard.result c.ask-heard.type_inv) (asked_fits c.requires c.if-w-from.false c.lease.ensures c.if-lease-ne0.false c.ask-heard.ensures)

pub visit-returns : goal.visit-returns
visit-returns t c =
    let z = handed_on c.ask-heard.result c.ask-heard.type_inv in
    rw (to_z-of_z c.ranges.sum, z, to_z-of_z {w = w64} (asked_fits c.requires c.if-w-from.false c.lease.ensures c.if-lease-ne0.false c.ask-heard.ensures))
    (visited_asked c.requires c.if-w-from.false c.lease.ensures c.if-lease-ne0.false c.ask-heard.ensures c.push.ensures (rw z at c.push-2.ensures) refl)
