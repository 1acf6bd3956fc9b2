-- `span::read` meets its contract. After i turns the number is the field of the first i bits.
use mathlib.Core.Path.{◌≡◌}
use Prim.Native.Nat.{◌≤◌, ◌-◌}
use Rattle.fields.specs.Fields.{field}
use Rattle.fields.proofs.span.read.Given as goal

abbrev pub invariant-loop-i : goal.invariant-loop-i
invariant-loop-i l = (l.i ≤ l.width) × (l.number ≡ field l.bytes l.place l.i)

abbrev pub decreases-loop-i : goal.decreases-loop-i
decreases-loop-i l = l.width - l.i
