-- `bit::patched` meets its contract: no step leaves the byte.
use native.Mathlib.Omega.{arith}
use Rattle.fields.specs.Bits.{digit, patch}
use Rattle.fields.proofs.Digits.{digit_le}
use Rattle.fields.proofs.Bits.{weight_pos, patch_byte}
use Rattle.fields.proofs.bit.patched.Goals as goal

pub nonzero_div-result : goal.nonzero_div-result
nonzero_div-result c = rw c.weight-w.ensures (weight_pos c.args.k)

pub overflow_mul-result : goal.overflow_mul-result
unfolding digit
overflow_mul-result c = omega (arith, digit_le c.args.x c.weight-w.result)

pub overflow_sub-result : goal.overflow_sub-result
unfolding digit
overflow_sub-result c = digit_le c.args.x c.weight-w.result

pub overflow_mul-result-2 : goal.overflow_mul-result-2
unfolding digit patch
overflow_mul-result-2 c =
    let a = c.args in
    rw c.weight-w.ensures (omega (arith, patch_byte a.x a.k a.b c.requires c.ranges.x.fits))

pub overflow_add-result : goal.overflow_add-result
unfolding digit patch
overflow_add-result c =
    let a = c.args in
    rw c.weight-w.ensures (record { fits = patch_byte a.x a.k a.b c.requires c.ranges.x.fits })

pub returns : goal.returns
unfolding digit patch
returns c = rw c.weight-w.ensures
