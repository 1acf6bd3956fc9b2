-- `order::ordered` meets its contract: what is kept of the neighbours so far is what the pass keeps, and the first child out of order ends it.
use mathlib.Core.Path.{◌≡◌}
use mathlib.Core.Bool.{true}
use Prim.Native.Nat.{◌-◌, ◌≤◌}
use Rattle.tree.specs.Every.{every}
use Rattle.session.specs.inner.Passes.{highs, lows, ordered_at}
use Rattle.session.proofs.order.ordered.Given as goal

abbrev pub invariant-loop-child : goal.invariant-loop-child
invariant-loop-child l =
    let k = l.child - 1 in
    (1 ≤ l.child)
    × ((l.high ≡ highs l.tree.parents l.up l.down k) × ((l.low ≡ lows l.tree.parents l.up l.down k) × (every (ordered_at l.tree.parents l.up l.down) k ≡ true)))
