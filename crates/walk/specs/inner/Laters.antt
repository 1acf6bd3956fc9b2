-- What comes after each neighbour of a node in turn, the one towards x left out.
use Rattle.std.specs.Prelude.{◌≡◌, Bool, true, not, cond, ◌&&◌, List, ℕ, zero, suc, ◌-◌, ◌<◌, ◌≤◌, eqb, ℤ, pos}
use Rattle.std.specs.Int.{w64}
use Rattle.std.proofs.Common.{SFits}
use Rattle.tree.specs.Operation.{sum}
use Rattle.tree.specs.Parents.{Grown}
use Rattle.tree.specs.Sides.{adjacent, side}
use Rattle.tree.specs.Turns.{turn}
use Rattle.session.specs.Holding.{pair_at}
use Rattle.mechanism.specs.Views.{View}
use Rattle.mechanism.specs.Spreading.{add_if}

-- what is known by a cache: the cache where there is a lease, and nothing where there is none
unfoldable pub known_by : ℕ → ℤ → ℤ
known_by lease cache = cond (eqb lease 0) (pos 0) cache

-- what u knows of its neighbour c
abbrev pub known : View → ℕ → ℕ → ℤ
known q c u = known_by (q.lease c u) (q.cache c u)

-- c is a neighbour of u, and x is not beyond it
abbrev pub away : View → ℕ → ℕ → ℕ → Bool
away q x u c = adjacent q.parents c u && not (side q.parents c u x)

-- what u knows of those of its last m candidates that are neighbours, the one towards x left out
unfoldable pub later : View → ℕ → ℕ → ℕ → ℤ
later q x u zero = pos 0
later q x u (suc m) = add_if sum q (away q x u (turn q.count u (q.count - suc m))) (later q x u m) (known q (turn q.count u (q.count - suc m)) u)

-- x is a node, and all that may come up fits 64 bits
pub record Passing (q : View) (x : ℕ) : Type 0 where
  pub room : q.count ≤ 256
  pub inside : x < q.count
  pub grown : Grown q.parents q.count
  pub fits : (u m : ℕ) → u < q.count → m ≤ q.count → SFits w64 (later q x u m)

-- for u and its neighbour at place k stands what u knows of its neighbours after that one
pub record Passed (q : View) (x : ℕ) (up down : List ℤ) : Type 0 where
  pub laid : (u k : ℕ) → u < q.count → k < q.count → adjacent q.parents (turn q.count u k) u ≡ true
      → pair_at (pos 0) up down u (turn q.count u k) ≡ later q x u (q.count - suc k)
