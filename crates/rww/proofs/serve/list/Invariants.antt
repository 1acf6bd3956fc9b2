-- `serve::list`: no request has more messages than a u32 holds, and a list has at most 4,096 requests.
use Rattle.std.proofs.Common.{◌*◌, ◌≤◌}
use Rattle.rww.proofs.serve.list.Given as goal

abbrev pub invariant-loop-index : goal.invariant-loop-index
invariant-loop-index g l = (l.index-end ≤ 4096) × (l.sum ≤ 4294967295 * l.index-counter)
