-- `span::write` meets its contract. What is left to write makes of the bytes what the whole was to make of them.
use mathlib.Core.Path.{◌≡◌, ◌∙◌}
use native.Mathlib.Omega.{arith}
use Rattle.fields.specs.Fields.{put_field}
use Rattle.fields.proofs.Turns.{write_turn}
use Rattle.fields.proofs.span.write.Goals as goal

pub loop-i-preserved : goal.loop-i-preserved
loop-i-preserved c =
    write_turn c.loop-i.bytes c.write.new.bytes c.args.place c.loop-i.i c.loop-i.rest (omega arith) c.write.ensures ∙ c.loop-i.invariant

pub returns : goal.returns
unfolding put_field
returns c =
    let e : c.loop-i.i ≡ 0 = omega arith in
    rw e at c.loop-i.invariant
