-- What the functions of a write's walk ask for, and what they leave.
use Rattle.std.specs.Prelude.{◌≡◌, true, false, ◌≢◌, List, ℕ, zero, suc, ◌<◌, ◌≤◌, eqb, ℤ, pos, ◌+ℤ◌}
use Rattle.tree.specs.Operation.{sum}
use Rattle.tree.specs.Parents.{Grown}
use Rattle.tree.specs.Ranges.{Range}
use Rattle.tree.specs.Sides.{adjacent, side, other}
use Rattle.tree.specs.Sizes.{size}
use Rattle.tree.specs.Turns.{turn}
use Rattle.session.specs.Soundness.{Ordered}
use Rattle.mechanism.specs.Views.{View}
use Rattle.mechanism.specs.Spreading.{add_if, sends, spread}
use Rattle.trace.specs.declared.Trace.{Trace}
use Rattle.trace.specs.inner.Traces.{pushed_all}
use Rattle.walk.specs.inner.Links.{Linked, neighbour_at}
use Rattle.walk.specs.inner.Laters.{known, Passed}

-- a view on which a write's walk can go: values and leased caches are in range, and neighbouring numbers in order
pub record Steady (q : View) : Type 0 where
  pub room : q.count ≤ 256
  pub grown : Grown q.parents q.count
  pub ordered : Ordered q.parents q.count q.lease
  pub values_in : (u : ℕ) → Range 1 (q.value u)
  pub caches_in : (u v : ℕ) → u < q.count → v < q.count → adjacent q.parents v u ≡ true → q.lease u v ≢ 0 → Range (size q.parents q.count u v) (q.cache u v)

-- no neighbour among the first k candidates of x holds a lease
pub record SilentUpTo (n : ℕ) (ps : List ℕ) (lease : ℕ → ℕ → ℕ) (x k : ℕ) : Type 0 where
  pub none : (j : ℕ) → j < k → neighbour_at n ps x j ≡ true → lease x (turn n x j) ≡ 0

-- u was told z by v, beyond which x is; or by nobody, where u is x
pub record Come (q : View) (x u v : ℕ) (z : ℤ) : Type 0 where
  pub toward : (c : ℕ) → c < q.count → adjacent q.parents c u ≡ true → side q.parents c u x ≡ eqb c v
  pub something : adjacent q.parents v u ≡ true → Range (size q.parents q.count v u) z
  pub nothing : adjacent q.parents v u ≡ false → z ≡ pos 0

-- u's value, what it was told, and what it knows of its first k candidates that are neighbours but v
unfoldable pub before : View → ℕ → ℕ → ℤ → ℕ → ℤ
before q u v z zero = q.value u +ℤ z
before q u v z (suc k) = add_if sum q (other q.parents u v (turn q.count u k)) (before q u v z k) (known q (turn q.count u k) u)

-- u, told z by v, may tell its neighbours
pub record Spreading (q : View) (first next : List ℕ) (later_up later_down : List ℤ) (u v : ℕ) (z : ℤ) : Type 0 where
  pub x : ℕ
  pub start : x < q.count
  pub inside : u < q.count
  pub come : v < q.count
  pub steady : Steady q
  pub linked : Linked q.count q.parents first next
  pub passed : Passed q x later_up later_down
  pub told : Come q x u v z

-- u, told z by v, may tell its neighbour w
pub record Telling (q : View) (first next : List ℕ) (later_up later_down : List ℤ) (u v : ℕ) (z : ℤ) (w : ℕ) (y : ℤ) : Type 0 where
  pub spreading : Spreading q first next later_up later_down u v z
  pub place : ℕ
  pub inside : place < q.count
  pub turned : turn q.count u place ≡ w
  pub beside : adjacent q.parents w u ≡ true
  pub sums : y ≡ before q u v z place

-- what the walk at u leaves: its messages after those of t
pub record Spread (q : View) (f u v : ℕ) (z : ℤ) (t t' : Trace) : Type 0 where
  pub logs : t' ≡ pushed_all (spread sum q f u v z) t

-- what telling w adds to a sum and to t
pub record Told (q : View) (f u v : ℕ) (z : ℤ) (w : ℕ) (y : ℤ) (t : Trace) (y' : ℤ) (t' : Trace) : Type 0 where
  pub sums : y' ≡ add_if sum q (other q.parents u v w) y (known q w u)
  pub logs : t' ≡ pushed_all (sends sum q (other q.parents u v w) (q.lease u w) (spread sum q f) u v z w) t
