-- `entry::in_range` meets its contract: both ends fit an i64, and the machine reads back what it wrote.
use mathlib.Core.Path.{◌≡◌, ap, ap₂, ◌∙◌}
use mathlib.Core.Bool.{◌&&◌}
use native.Mathlib.Omega.{arith}
use borrow.Author.Rules.{rules}
use lib.IntN.{ℤ, pos, negsuc, ◌*ℤ◌}
use lib.Signed.{le_z}
use mir.Syntax.{w64}
use mir.Val.{of_z, to_z}
use mir.Facts.{to_z-of_z}
use Rattle.tree.specs.Ranges.{in_range}
use Rattle.session.proofs.Limits.{least_fits}
use Rattle.session.proofs.entry.in_range.Goals as goal

pub returns : goal.returns
unfolding in_range
returns c =
    let k = c.args.k in
    let n : to_z w64 (of_z w64 c.from-nodes.result) ≡ pos k = to_z-of_z {w = w64} (search rules) ∙ c.from-nodes.ensures in
    let z = to_z-of_z c.ranges.z in
    ap₂ ◌&&◌
    (ap₂ le_z (to_z-of_z {w = w64} {z = to_z w64 (of_z w64 c.from-nodes.result) *ℤ negsuc 2147483647} (rw n (least_fits k (omega arith))) ∙ ap (λ (y : ℤ). y *ℤ negsuc 2147483647) n) z)
    (ap₂ le_z z (to_z-of_z {w = w64} {z = to_z w64 (of_z w64 c.from-nodes.result) *ℤ pos 2147483647} (rw n (record { sfits = omega arith })) ∙ ap (λ (y : ℤ). y *ℤ pos 2147483647) n))
