-- What the functions of a combine's walk ask for, and what they leave.
use Rattle.std.specs.Prelude.{◌≡◌, true, List, [], ℕ, ◌<◌, ◌≤◌, ℤ}
use Rattle.std.specs.Int.{w64}
use Rattle.std.proofs.Common.{SFits}
use Rattle.tree.specs.Operation.{sum}
use Rattle.tree.specs.Sides.{adjacent, other}
use Rattle.mechanism.specs.Views.{View}
use Rattle.mechanism.specs.Combining.{said, step_if, sofar, ask}
use Rattle.trace.specs.declared.Trace.{Trace}
use Rattle.trace.specs.inner.Traces.{pushed_all}
use Rattle.walk.specs.inner.Links.{Linked}

-- every partial sum of a walk fits 64 bits
pub record SumsFit (q : View) : Type 0 where
  pub fit : (f u v k : ℕ) → u < q.count → v < q.count → k ≤ q.count → SFits w64 (sofar sum q (ask sum q f) u v k).sum

-- u, come from v, may ask
pub record Asking (q : View) (first next : List ℕ) (u v : ℕ) : Type 0 where
  pub room : q.count ≤ 256
  pub inside : u < q.count
  pub come : v < q.count
  pub fit : SumsFit q
  pub linked : Linked q.count q.parents first next

-- u, come from v, may visit its neighbour w, with a sum so far
pub record Visiting (q : View) (first next : List ℕ) (f u v w : ℕ) (z : ℤ) : Type 0 where
  pub asking : Asking q first next u v
  pub there : w < q.count
  pub beside : adjacent q.parents w u ≡ true
  pub fits : SFits w64 (step_if sum q (other q.parents u v w) (ask sum q f) u w (said z [])).sum

-- what the walk at u, come from v, leaves: its sum, and its messages after those of t
pub record Replied (q : View) (f u v : ℕ) (t : Trace) (z : ℤ) (t' : Trace) : Type 0 where
  pub sums : z ≡ (ask sum q f u v).sum
  pub logs : t' ≡ pushed_all (ask sum q f u v).log t

-- what the visit of w adds to a sum and to t
pub record Visited (q : View) (f u v w : ℕ) (z : ℤ) (t : Trace) (z' : ℤ) (t' : Trace) : Type 0 where
  pub sums : z' ≡ (step_if sum q (other q.parents u v w) (ask sum q f) u w (said z [])).sum
  pub logs : t' ≡ pushed_all (step_if sum q (other q.parents u v w) (ask sum q f) u w (said z [])).log t
