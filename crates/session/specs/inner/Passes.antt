-- The tests of a session's entries as they are made: in passes over the places.
use Rattle.std.specs.Prelude.{Bool, true, false, ◌&&◌, List, ℕ, zero, suc, ◌-◌, min, max, eqb, leb, ℤ, pos, get_or, set}
use Rattle.tree.specs.inner.Places.{from, places}
use Rattle.tree.specs.Every.{every}
use Rattle.tree.specs.Parents.{parent}
use Rattle.tree.specs.Ranges.{in_range}

-- how many nodes are on the near side of a pair, where k of n are below the child: k, or for a pair from parent to child the rest
abbrev pub near_size : ℕ → Bool → ℕ → ℕ
near_size n false k = k
near_size n true k = n - k

-- a test of the numbers of pairs: at most m where there is a pair, and zero where there is not
abbrev pub numbers : ℕ → ℕ → List ℕ → Bool
numbers n m l = places n (λ i. leb (get_or l i 0) m) (λ i. eqb (get_or l i 0) 0)

-- a test of the caches of pairs: each in the range of the near side, k i nodes, and zero where there is no pair
abbrev pub caches : ℕ → (ℕ → ℕ) → List ℤ → Bool
caches n k l = places n (λ i. in_range (k i) (get_or l i (pos 0))) (λ i. in_range 0 (get_or l i (pos 0)))

-- a test of all entries of one direction; ks has the nodes at or below each node
unfoldable pub pairs : ℕ → ℕ → Bool → List ℕ → List ℕ → List ℤ → List ℕ → Bool
pairs n twice down ks ls cs ms = (numbers n 2 ls && numbers n twice ms) && caches n (λ i. near_size n down (get_or ks i 0)) cs

-- a test of the values of nodes that are not there: all are zero
unfoldable pub values : ℕ → List ℤ → Bool
values n vs = every (from n (λ i. in_range 0 (get_or vs i (pos 0)))) 256

-- what each node keeps of its children 1 to k, from a start on
unfoldable pub from_children : (ℕ → ℕ → ℕ) → List ℕ → List ℕ → List ℕ → ℕ → List ℕ
from_children join ps start told zero = start
from_children join ps start told (suc k) = set (from_children join ps start told k) (parent ps (suc k)) (join (get_or (from_children join ps start told k) (parent ps (suc k)) 0) (get_or told (suc k) 0))

-- the largest number of a pair out of each node, and the smallest of a pair into it, of its parent and of its children 1 to k
abbrev pub highs : List ℕ → List ℕ → List ℕ → ℕ → List ℕ
highs ps up down k = from_children max ps up down k

abbrev pub lows : List ℕ → List ℕ → List ℕ → ℕ → List ℕ
lows ps up down k = from_children min ps (set down 0 255) up k

-- the child k + 1 is in order with its parent's neighbours before it
abbrev pub ordered_at : List ℕ → List ℕ → List ℕ → ℕ → Bool
ordered_at ps up down k =
    leb (get_or (highs ps up down k) (parent ps (suc k)) 0) (get_or up (suc k) 0)
    && leb (get_or down (suc k) 0) (get_or (lows ps up down k) (parent ps (suc k)) 0)

unfoldable pub ordered : ℕ → List ℕ → List ℕ → List ℕ → Bool
ordered n ps up down = every (ordered_at ps up down) (n - 1)
