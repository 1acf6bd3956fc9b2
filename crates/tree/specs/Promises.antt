-- What is promised of trees, over any operation. The theorem that proves a statement bears its name in small letters.
use Rattle.std.specs.Prelude.{◌≡◌, Bool, true, not, ◌&&◌, ◌≢◌, ◌↔◌, List, ◌++◌, ℕ, suc, ◌+◌, ◌<◌, ◌≤◌, eqb, ℤ, ◌+ℤ◌, get_or}
use Rattle.twos.specs.Twos.{within}
use Rattle.tree.specs.Parents.{parent, Grown, InRule, in_rule}
use Rattle.tree.specs.Sides.{adjacent, side, points_to, other}
use Rattle.tree.specs.Paths.{Way}
use Rattle.tree.specs.Operation.{Op, fold, aggregate, plus, sum}
use Rattle.tree.specs.Sizes.{size, size_below, sizes}
use Rattle.tree.specs.Ranges.{Range}
use Rattle.tree.specs.Turns.{turn}
use Rattle.tree.specs.Kept.{when, kept}
use Rattle.tree.specs.inner.Tours.{tour, Closed, OfItsPair}
use Rattle.tree.specs.Leaves.{Joins, Goes, old_number}

-- The test of a tree holds exactly where the tree is in rule.
abbrev pub InRuleExactly : Type 0
InRuleExactly = (ps : List ℕ) (n : ℕ) → (in_rule ps n ≡ true) ↔ InRule ps n

-- Exactly one neighbour of u leads to each other node.
abbrev pub OneWay : Type 0
OneWay = (ps : List ℕ) (n : ℕ) → Grown ps n → (u j : ℕ) → u < n → j < n → j ≢ u → (k : ℕ) × (k < n) × ((w : ℕ) → (side ps w u j && adjacent ps w u) ≡ eqb k w)

-- The two sides of an edge are complementary, and their sizes add up to the count.
abbrev pub Complementary : Type 0
Complementary = (ps : List ℕ) (u v j : ℕ) → u ≢ v → side ps u v j ≡ not (side ps v u j)

abbrev pub SizesAdd : Type 0
SizesAdd = (ps : List ℕ) (n : ℕ) → Grown ps n → (u v : ℕ) → u < n → v < n → adjacent ps v u ≡ true → size ps n u v + size ps n v u ≡ n

-- (u,v) points to x exactly when v is on the path from u to x.
abbrev pub PointsExactly : Type 0
PointsExactly = (ps : List ℕ) (n : ℕ) → Grown ps n → (u v x : ℕ) → u < n → v < n → x < n → adjacent ps u v ≡ true → (points_to ps u v x ≡ true) ↔ Way ps n u v x

-- For different neighbours r and v of u, r's side of (r,u) lies within u's side of (u,v).
abbrev pub Nested : Type 0
Nested = (ps : List ℕ) (n : ℕ) → Grown ps n → (u r v j : ℕ) → u < n → j < n → adjacent ps r u ≡ true → adjacent ps v u ≡ true → r ≢ v
    → side ps r u j ≡ true → side ps u v j ≡ true

-- For different neighbours r and v of u, (r,u) points to x where (u,v) does.
abbrev pub Outward : Type 0
Outward = (ps : List ℕ) (n : ℕ) → Grown ps n → (u r v x : ℕ) → u < n → x < n → adjacent ps r u ≡ true → adjacent ps v u ≡ true → r ≢ v
    → points_to ps u v x ≡ true → points_to ps r u x ≡ true

-- The aggregate of u's side of (u,v) is u's own value and the aggregates of the sides (w,u) of its other neighbours.
abbrev pub SideLaw : Type 1
SideLaw = (ps : List ℕ) (n : ℕ) → Grown ps n → (A : Type 0) (op : Op A) (f : ℕ → A) (u v : ℕ) → u < n → adjacent ps v u ≡ true
    → aggregate op f (side ps u v) n ≡ op.◌⊕◌ (f u) (aggregate op (λ w. aggregate op f (side ps w u) n) (other ps u v) n)

-- The aggregate of the whole is any node's own value and the aggregates of the sides of all its neighbours.
abbrev pub WholeLaw : Type 1
WholeLaw = (ps : List ℕ) (n : ℕ) → Grown ps n → (A : Type 0) (op : Op A) (f : ℕ → A) (x : ℕ) → x < n
    → fold op f n ≡ op.◌⊕◌ (f x) (aggregate op (λ w. aggregate op f (side ps w x) n) (λ w. adjacent ps w x) n)

-- A fold does not depend on the order of candidates.
abbrev pub AnyOrder : Type 1
AnyOrder = (n u : ℕ) → u < n → (A : Type 0) (op : Op A) (f : ℕ → A) → fold op (λ k. f (turn n u k)) n ≡ fold op f n

-- Of the pair (a,b) a walk from x says all that there is to say on going to a from b, once, where (a,b) points to x and the walk's test lets it, and else nothing.
abbrev pub VisitedOnce : Type 1
VisitedOnce = (ps : List ℕ) (n : ℕ) → Grown ps n → (go : ℕ → ℕ → Bool) → Closed ps n go
    → (M : Type 0) (about : ℕ → ℕ → M → Bool) (before after : ℕ → ℕ → List M) → OfItsPair ps n about before → OfItsPair ps n about after
    → (a b : ℕ) → a < n → b < n → (k x : ℕ) → n ≤ k → x < n
    → kept (about a b) (tour ps n go before after k x) ≡ when ((points_to ps a b x && adjacent ps b a) && go a b) (before a b ++ after a b)

-- A falling number of the count is enough for a walk: a larger one changes nothing.
abbrev pub CountIsEnough : Type 1
CountIsEnough = (ps : List ℕ) (n : ℕ) → Grown ps n → (M : Type 0) (go : ℕ → ℕ → Bool) (before after : ℕ → ℕ → List M) (k x : ℕ) → n ≤ k → x < n
    → tour ps n go before after k x ≡ tour ps n go before after n x

-- A leaf that joins leaves a tree, with the neighbours and the sides as they were.
abbrev pub JoinGrown : Type 0
JoinGrown = (ps : List ℕ) (n p : ℕ) (qs : List ℕ) → Grown ps n → Joins ps n p qs → Grown qs (suc n)

abbrev pub JoinAdjacent : Type 0
JoinAdjacent = (ps : List ℕ) (n p : ℕ) (qs : List ℕ) → Grown ps n → Joins ps n p qs → (u v : ℕ) → u < n → v < n → adjacent qs u v ≡ adjacent ps u v

abbrev pub JoinSide : Type 0
JoinSide = (ps : List ℕ) (n p : ℕ) (qs : List ℕ) → Grown ps n → Joins ps n p qs → (u v j : ℕ) → u < n → v < n → j < n → side qs u v j ≡ side ps u v j

-- A leaf that joins is on the side that its parent is on.
abbrev pub JoinLeaf : Type 0
JoinLeaf = (ps : List ℕ) (n p : ℕ) (qs : List ℕ) → Grown ps n → Joins ps n p qs → (u v : ℕ) → u < n → v < n → side qs u v n ≡ side ps u v p

-- A leaf that goes leaves a tree, with the neighbours and the sides as they were, under the old numbers.
abbrev pub GoGrown : Type 0
GoGrown = (ps : List ℕ) (m x : ℕ) (qs : List ℕ) → Grown ps (suc m) → Goes ps m x qs → Grown qs m

abbrev pub GoAdjacent : Type 0
GoAdjacent = (ps : List ℕ) (m x : ℕ) (qs : List ℕ) → Grown ps (suc m) → Goes ps m x qs → (u v : ℕ) → u < m → v < m → adjacent qs u v ≡ adjacent ps (old_number x u) (old_number x v)

abbrev pub GoSide : Type 0
GoSide = (ps : List ℕ) (m x : ℕ) (qs : List ℕ) → Grown ps (suc m) → Goes ps m x qs → (u v j : ℕ) → j < m → side qs u v j ≡ side ps (old_number x u) (old_number x v) (old_number x j)

-- A tree in rule has at each place of its sizes how many nodes are below that node, which is the size of its side of the edge to its parent.
abbrev pub SizesRead : Type 0
SizesRead = (ps : List ℕ) (n : ℕ) → InRule ps n → (i : ℕ) → i < 256 → get_or (sizes ps n) i 0 ≡ size_below ps n i

abbrev pub SizeBelow : Type 0
SizeBelow = (ps : List ℕ) (n : ℕ) → Grown ps n → (i : ℕ) → 0 < i → i < n → size_below ps n i ≡ size ps n i (parent ps i)

-- A value is in the range of one node exactly where it has 32 bits.
abbrev pub RangeOfOne : Type 0
RangeOfOne = (z : ℤ) → Range 1 z ↔ (within 32 z ≡ true)

-- Ranges add, so that an aggregate over k nodes is in the range of k.
abbrev pub RangeAdds : Type 0
RangeAdds = (j k : ℕ) (y z : ℤ) → Range j y → Range k z → Range (j + k) (y +ℤ z)

abbrev pub RangeOfNodes : Type 0
RangeOfNodes = (f : ℕ → ℤ) (test : ℕ → Bool) (n : ℕ) → ((j : ℕ) → j < n → Range 1 (f j)) → Range (aggregate plus (λ j. 1) test n) (aggregate sum f test n)

-- A value in the range of up to 256 nodes has the 40 bits of a message.
abbrev pub RangeFits : Type 0
RangeFits = (k : ℕ) (z : ℤ) → k ≤ 256 → Range k z → within 40 z ≡ true
