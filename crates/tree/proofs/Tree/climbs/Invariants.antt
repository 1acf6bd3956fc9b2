-- `Tree::climbs` meets its contract: what is left of the climb tells the same all the way.
use mathlib.Core.Path.{◌≡◌}
use Prim.Native.Nat.{◌-◌}
use Rattle.tree.specs.Sides.{climb, below}
use Rattle.tree.proofs.Tree.climbs.Given as goal

abbrev pub invariant-loop : goal.invariant-loop
invariant-loop l = climb l.self.parents l.i (l.j - l.counter) l.at ≡ below l.self.parents l.i l.j
