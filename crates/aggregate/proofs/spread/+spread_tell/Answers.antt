-- The cycle of `spread::spread` and `spread::tell` meets its contracts, by what each way through `tell` and each turn of `spread` adds.
use mathlib.Core.Path.{refl}
use native.Mathlib.Omega.{arith}
use mir.Syntax.{w64}
use mir.Facts.{to_z-of_z}
use Rattle.messages.proofs.Parts.{handed_on}
use Rattle.walk.proofs.Sends.{both_small, told_back, adds_fits, told_none, sends_fits, spreading_on, told_last, told_more, start_fits, partly_first, partly_next, telling, spread_all, spread_none}
use Rattle.aggregate.proofs.Rounds.{round_on, turned, ended}
use Rattle.aggregate.proofs.spread.+spread_tell.Goals as goal

pub spread-overflow_add-sum : goal.spread-overflow_add-sum
spread-overflow_add-sum t c = rw (handed_on c.value.result c.value.type_inv, to_z-of_z c.ranges.told, c.value.ensures) (start_fits c.requires)

pub spread-returns-then-left-eq0 : goal.spread-returns-then-left-eq0
spread-returns-then-left-eq0 t c = spread_none c.if-left-eq0.true

pub spread-loop-w-init : goal.spread-loop-w-init
spread-loop-w-init t c =
    let n = c.neighbours-w-items.ensures in
    rw c.into_iter-w-iterator.ensures.into_iter_gives
    (n.round, rw (handed_on c.value.result c.value.type_inv, to_z-of_z c.ranges.told, c.value.ensures, to_z-of_z {w = w64} (start_fits c.requires)) (partly_first n.first refl))

pub spread-tell-sum-requires : goal.spread-tell-sum-requires
spread-tell-sum-requires t c =
    let i = c.loop-w.invariant in
    (omega arith, telling (turned i.0 c.in-Some.ensures.steps) i.1 (rw (to_z-of_z c.ranges.told) c.requires))

pub spread-loop-w-preserved : goal.spread-loop-w-preserved
spread-loop-w-preserved t c =
    let i = c.loop-w.invariant in
    let g = c.in-Some.ensures.steps in
    (round_on i.0 g.0, rw (handed_on c.tell-sum.result c.tell-sum.type_inv) (partly_next (turned i.0 g) i.1 c.tell-sum.ensures))

pub spread-returns : goal.spread-returns
spread-returns t c =
    let i = c.loop-w.invariant in
    rw (to_z-of_z c.ranges.told) at (spread_all c.if-left-eq0.false (ended i.0 c.in-None.ensures.steps) i.1)

pub tell-returns-then-w-from : goal.tell-returns-then-w-from
tell-returns-then-w-from t c = rw (to_z-of_z c.ranges.sum) (told_back c.if-w-from.true)

pub tell-cache-kept-requires : goal.tell-cache-kept-requires
tell-cache-kept-requires t c = let b = both_small c.requires in (b.1, b.0)

pub tell-lease-requires : goal.tell-lease-requires
tell-lease-requires t c = let b = both_small c.requires in (b.1, b.0)

pub tell-overflow_add-before : goal.tell-overflow_add-before
tell-overflow_add-before t c =
    let k = rw (c.lease.ensures, handed_on c.cache-kept.result c.cache-kept.type_inv, c.cache-kept.ensures) at c.known.ensures in
    rw (to_z-of_z c.ranges.sum, handed_on c.known.result c.known.type_inv) (adds_fits c.requires c.if-w-from.false k)

pub tell-lease-number-requires : goal.tell-lease-number-requires
tell-lease-number-requires t c = both_small c.requires

pub tell-returns-then-number-eq0 : goal.tell-returns-then-number-eq0
tell-returns-then-number-eq0 t c =
    let k = rw (c.lease.ensures, handed_on c.cache-kept.result c.cache-kept.type_inv, c.cache-kept.ensures) at c.known.ensures in
    rw (to_z-of_z c.ranges.sum, handed_on c.known.result c.known.type_inv, to_z-of_z {w = w64} (adds_fits c.requires c.if-w-from.false k))
    (told_none c.requires c.if-w-from.false k refl c.lease-number.ensures c.if-number-eq0.true)

pub tell-after-requires : goal.tell-after-requires
tell-after-requires t c = both_small c.requires

pub tell-overflow_add-total : goal.tell-overflow_add-total
tell-overflow_add-total t c =
    rw (to_z-of_z c.ranges.sum, handed_on c.after.result c.after.type_inv) (sends_fits c.requires c.if-w-from.false c.lease-number.ensures c.if-number-eq0.false c.after.ensures)

pub tell-overflow_cast-w : goal.tell-overflow_cast-w
tell-overflow_cast-w t c = record { fits = (both_small c.requires).1 }

pub tell-spread-requires : goal.tell-spread-requires
tell-spread-requires t c = (
  omega arith,
  rw (to_z-of_z c.ranges.sum, handed_on c.after.result c.after.type_inv, to_z-of_z {w = w64} (sends_fits c.requires c.if-w-from.false c.lease-number.ensures c.if-number-eq0.false c.after.ensures))
      (spreading_on c.requires c.if-w-from.false c.lease-number.ensures c.if-number-eq0.false c.after.ensures refl),
)

pub tell-overflow_cast-w-then-number-eq1 : goal.tell-overflow_cast-w-then-number-eq1
tell-overflow_cast-w-then-number-eq1 t c = record { fits = (both_small c.requires).1 }

pub tell-returns-then-number-eq1 : goal.tell-returns-then-number-eq1
tell-returns-then-number-eq1 t c =
    let k = rw (c.lease.ensures, handed_on c.cache-kept.result c.cache-kept.type_inv, c.cache-kept.ensures) at c.known.ensures in
    let s = to_z-of_z c.ranges.sum in
    let a = handed_on c.after.result c.after.type_inv in
    let p = to_z-of_z {w = w64} (sends_fits c.requires c.if-w-from.false c.lease-number.ensures c.if-number-eq0.false c.after.ensures) in
    rw (s, handed_on c.known.result c.known.type_inv, to_z-of_z {w = w64} (adds_fits c.requires c.if-w-from.false k))
    (told_last c.requires c.if-w-from.false c.lease-number.ensures c.if-number-eq0.false c.after.ensures refl k refl (rw (s, a, p) at c.push.ensures) (rw (s, a, p) at c.spread.ensures) c.if-number-eq1.true c.push-then-number-eq1.ensures)

pub tell-returns-else-number-eq1 : goal.tell-returns-else-number-eq1
tell-returns-else-number-eq1 t c =
    let k = rw (c.lease.ensures, handed_on c.cache-kept.result c.cache-kept.type_inv, c.cache-kept.ensures) at c.known.ensures in
    let s = to_z-of_z c.ranges.sum in
    let a = handed_on c.after.result c.after.type_inv in
    let p = to_z-of_z {w = w64} (sends_fits c.requires c.if-w-from.false c.lease-number.ensures c.if-number-eq0.false c.after.ensures) in
    rw (s, handed_on c.known.result c.known.type_inv, to_z-of_z {w = w64} (adds_fits c.requires c.if-w-from.false k))
    (told_more c.requires c.if-w-from.false c.lease-number.ensures c.if-number-eq0.false c.after.ensures refl k refl (rw (s, a, p) at c.push.ensures) (rw (s, a, p) at c.spread.ensures) c.if-number-eq1.false)
