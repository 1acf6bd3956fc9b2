-- `apply::hit` meets its contract: what a message does not change is stored as it was.
use mathlib.Core.Path.{◌∙◌}
use mathlib.Core.Logic.{inl, inr}
use lib.IntN.{pos}
use lib.Seq.{set-get_or}
use borrow.Author.Rules.{rules}
use mir.Facts.{to_z-of_z}
use mir.Syntax.{w64}
use Rattle.mechanism.specs.Applying.{hit}
use Rattle.aggregate.proofs.ByRule.{after_write_lem}
use Rattle.aggregate.proofs.apply.hit.Goals as goal

pub returns-in-Probe : goal.returns-in-Probe
unfolding hit
returns-in-Probe c =
    let p = c.args.pairs.now in
    let leases = set-get_or p.lease c.args.i 0 in
    let caches = set-get_or p.cache c.args.i (pos 0) in
    elim c.in-Probe.is [ inl w ↦ rw (w.2, leases, caches) | inr w ↦ rw (w.2, leases, caches) ]

pub returns-in-Response : goal.returns-in-Response
unfolding hit
returns-in-Response c =
    let p = c.args.pairs.now in
    let m = c.in-Response in
    rw (m.is, set-get_or p.lease c.args.i 0, to_z-of_z {w = w64} {z = m.z} (search rules))

pub returns-in-Update : goal.returns-in-Update
unfolding hit
returns-in-Update c =
    let m = c.in-Update in
    rw (m.is, c.after_writes.ensures ∙ after_write_lem _, to_z-of_z {w = w64} {z = m.z} (search rules))
