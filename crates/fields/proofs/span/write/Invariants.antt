-- `span::write` meets its contract. What is left to write makes of the bytes what the whole was to make of them.
use Rattle.std.proofs.Common.{◌≡◌}
use Rattle.fields.specs.Fields.{put_field}
use Rattle.fields.proofs.span.write.Given as goal

abbrev pub invariant-loop-i : goal.invariant-loop-i
invariant-loop-i l = put_field l.bytes l.place l.i l.rest ≡ put_field l.initial.bytes l.place l.width l.value
