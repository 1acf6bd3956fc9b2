-- The order in which a node thinks of its neighbours: all numbers are candidates, each has one turn.
use Rattle.std.specs.Prelude.{List, [], ◌++◌, ℕ, zero, suc}

-- the k-th candidate of node u in a tree of n nodes, k from 0 to n - 1: ascending
unfoldable pub turn : ℕ → ℕ → ℕ → ℕ
turn n u k = k

-- what is said of all candidates of u, in turn
unfoldable pub joined : {M : Type 0} → (ℕ → List M) → ℕ → List M
joined says zero = []
joined says (suc k) = joined says k ++ says k

abbrev pub round : {M : Type 0} → ℕ → ℕ → (ℕ → List M) → List M
round n u says = joined (λ k. says (turn n u k)) n
