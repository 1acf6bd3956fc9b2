-- `sign::value` meets its contract: a number of the lower half is its own value.
use mathlib.Core.Path.{◌∙◌, sym}
use native.Mathlib.Omega.{arith}
use Prim.Native.Nat.{◌-◌}
use lib.Pow.{pow_mono}
use mir.Facts.{to_z_pos}
use mir.Syntax.{w64}
use Rattle.twos.proofs.Signs.{signed_low}
use Rattle.twos.proofs.sign.value.Goals as goal

pub returns-then-number-half : goal.returns-then-number-half
returns-then-number-half c =
    let a = c.args in
    to_z_pos w64 (omega (arith, pow_mono {i = a.width - 1} {j = 63} (omega arith))) ∙ sym (signed_low a.width a.number (omega arith))
