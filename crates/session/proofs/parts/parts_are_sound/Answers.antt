-- `parts_are_sound` meets its contract: the root's size tells whether the tree is in rule, and past that and the limit the passes are made together.
use mathlib.Core.Path.{refl, sym, ◌∙◌}
use Prim.Native.Nat.{◌≤◌}
use native.Mathlib.Omega.{arith}
use borrow.Author.Rules.{rules}
use borrow.Author.Tests.{le-leb, lt-leb}
use lib.IntN.{pos}
use Rattle.tree.proofs.Sizes.{root_none}
use Rattle.session.specs.Parts.{session_by}
use Rattle.session.specs.Soundness.{limit, sound}
use Rattle.session.specs.inner.Passes.{values}
use Rattle.session.proofs.AllZero.{rest_zero}
use Rattle.session.proofs.InPasses.{rooted, node_count, together, sound_passes}
use Rattle.session.proofs.parts.parts_are_sound.Goals as goal

pub returns-then-sizes-eq0 : goal.returns-then-sizes-eq0
unfolding sound
returns-then-sizes-eq0 c = rw (root_none _ _ (rw c.sizes-sizes.ensures at c.if-sizes-eq0.true))

pub returns-then-accepted-gt-LIMIT : goal.returns-then-accepted-gt-LIMIT
unfolding sound
returns-then-accepted-gt-LIMIT c = rw (rooted _ _ _ c.sizes-sizes.ensures (omega arith), lt-leb c.args.accepted limit c.if-accepted-gt-LIMIT.true)

pub returns : goal.returns
unfolding values
returns c =
    let a = c.args in
    let s = session_by a.count a.parents.now a.values.now a.up_lease.now a.up_cache.now a.up_messages.now a.down_lease.now a.down_cache.now a.down_messages.now a.accepted in
    let few : s.accepted ≤ 1048576 = omega arith in
    together s (rooted _ _ _ c.sizes-sizes.ensures (omega arith)) (le-leb s.accepted limit few)
    (rw c.sizes-sizes.ensures at c.pairs.ensures)
    (rw c.sizes-sizes.ensures at c.pairs-2.ensures)
    (c.none.ensures ∙ rest_zero _ (pos 0) s.values _ 256 (search rules) (λ i. refl) _ _ c.from.ensures (node_count _ _ _ c.sizes-sizes.ensures (omega arith)).1)
    c.ordered.ensures.is
    ∙ sym (sound_passes s c.ordered.ensures.long (search rules) (search rules))
