-- `pass::every` meets its contract: every place so far passes the test.
use mathlib.Core.Path.{◌≡◌}
use mathlib.Core.Bool.{Bool}
use Prim.Native.Nat.{ℕ, ◌≤◌, ◌<◌}
use Rattle.tree.specs.inner.Places.{from}
use Rattle.tree.specs.Every.{every}
use Rattle.session.proofs.pass.every.Given as goal

abbrev pub invariant-loop-i : goal.invariant-loop-i
invariant-loop-i g l =
    (l.first ≤ l.i)
    × ((l.i ≤ l.end)
    × ((t : ℕ → Bool) → ((i : ℕ) (b : Bool) → l.first ≤ i → i < l.end → goal.F-post g l.test i b → b ≡ t i) → l.good ≡ every (from l.first t) l.i))
