-- `spread::is_silent` meets its contract: no neighbour so far holds a lease.
use mathlib.Core.Path.{◌≡◌, sym, ◌∙◌}
use native.Mathlib.Omega.{arith}
use Rattle.walk.proofs.Neighbours.{beside_inside}
use Rattle.walk.proofs.Silence.{silent_first, silent_next, silent_all}
use Rattle.aggregate.proofs.Rounds.{round_on, turned, ended}
use Rattle.aggregate.proofs.spread.is_silent.Goals as goal

pub loop-w-init : goal.loop-w-init
loop-w-init c =
    let n = c.neighbours-w-items.ensures in
    rw c.into_iter-w-iterator.ensures.into_iter_gives (n.round, silent_first n.first)

pub lease-requires : goal.lease-requires
lease-requires c =
    let i = c.loop-w.invariant in
    let r = c.requires in
    let w = beside_inside r.inside (turned i.0 c.in-Some.ensures.steps) in
    (omega (arith, r.inside, r.room), omega (arith, r.room, w))

pub loop-w-preserved : goal.loop-w-preserved
loop-w-preserved c =
    let i = c.loop-w.invariant in
    let g = c.in-Some.ensures.steps in
    let none : c.lease.result ≡ 0 = omega arith in
    (round_on i.0 g.0, silent_next i.1 (turned i.0 g) (sym c.lease.ensures ∙ none))

pub returns : goal.returns
returns c =
    let i = c.loop-w.invariant in
    λ _. silent_all (ended i.0 c.in-None.ensures.steps) i.1
