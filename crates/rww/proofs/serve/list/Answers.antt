-- `serve::list`: a list has at most 4,096 requests.
use native.Mathlib.Omega.{arith}
use Rattle.rww.proofs.Few.{few}
use Rattle.rww.proofs.serve.list.Goals as goal

pub loop-index-init : goal.loop-index-init
loop-index-init g c = (few _ _ c.in-Ok.ensures, omega arith)
