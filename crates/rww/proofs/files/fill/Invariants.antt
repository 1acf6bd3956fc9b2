-- `files::fill` ends, since each turn leaves less room.
use Rattle.std.proofs.Common.{length, ◌-◌, ◌≡◌, ◌≤◌}
use Rattle.rww.proofs.files.fill.Given as goal

abbrev pub invariant-loop-size : goal.invariant-loop-size
invariant-loop-size g l = (length l.room ≡ length l.initial.room) × (l.size ≤ length l.room)

abbrev pub decreases-loop-size : goal.decreases-loop-size
decreases-loop-size g l = length l.initial.room - l.size
