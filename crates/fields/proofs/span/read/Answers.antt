-- `span::read` meets its contract. After i turns the number is the field of the first i bits.
use mathlib.Core.Path.{◌∙◌, ap, refl}
use Prim.Native.Nat.{◌+◌, zero-le}
use native.Mathlib.Omega.{arith}
use Rattle.fields.specs.Fields.{field}
use Rattle.fields.proofs.Bits.{bit_lt}
use Rattle.fields.proofs.Turns.{read_turn, read_room}
use Rattle.fields.proofs.span.read.Goals as goal

pub loop-i-init : goal.loop-i-init
unfolding field
loop-i-init c = (zero-le, refl)

pub overflow_mul-number : goal.overflow_mul-number
overflow_mul-number c =
    let a = c.args in
    omega (arith, read_room a.bytes.now a.place c.loop-i.i (omega arith))

pub overflow_add-number : goal.overflow_add-number
overflow_add-number c =
    let a = c.args in
    let i = c.loop-i.i in
    omega (arith, read_room a.bytes.now a.place i (omega arith), bit_lt a.bytes.now (a.place + i), c.read.ensures)

pub loop-i-preserved : goal.loop-i-preserved
loop-i-preserved c =
    let a = c.args in
    (omega arith, omega (arith, c.read.ensures, read_turn a.bytes.now a.place c.loop-i.i))

pub returns : goal.returns
returns c =
    let a = c.args in
    c.loop-i.invariant.1 ∙ ap (field a.bytes.now a.place) (omega arith)
