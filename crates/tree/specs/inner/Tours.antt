-- How a walk goes through a tree, and what it says on the way, in order.
use Rattle.std.specs.Prelude.{◌≡◌, Bool, true, ◌&&◌, ◌≢◌, List, [], ◌++◌, ℕ, zero, suc, ◌<◌, eqb}
use Rattle.tree.specs.Kept.{when, kept}
use Rattle.tree.specs.Sides.{adjacent, other}
use Rattle.tree.specs.Turns.{round}

-- what a walk at u, come from v, says of each other neighbour w that it goes on to, where `go w u`, in turn
abbrev pub onward : {M : Type 0} → List ℕ → ℕ → (ℕ → ℕ → Bool) → ℕ → ℕ → (ℕ → List M) → List M
onward ps n go u v says = round n u (λ w. when (other ps u v w && go w u) (says w))

-- what a walk says on going to u from v: `before u v`, then what it says on going on from u, then `after u v`; it counts down a falling number, and stops at 0
unfoldable pub visit : {M : Type 0} → List ℕ → ℕ → (ℕ → ℕ → Bool) → (ℕ → ℕ → List M) → (ℕ → ℕ → List M) → ℕ → ℕ → ℕ → List M
visit ps n go before after zero u v = []
visit ps n go before after (suc k) u v = before u v ++ (onward ps n go u v (λ w. visit ps n go before after k w u) ++ after u v)

-- the walk from x, which comes from nowhere
abbrev pub tour : {M : Type 0} → List ℕ → ℕ → (ℕ → ℕ → Bool) → (ℕ → ℕ → List M) → (ℕ → ℕ → List M) → ℕ → ℕ → List M
tour ps n go before after k x = onward ps n go x x (λ w. visit ps n go before after k w x)

-- The test of a walk is closed inward: where it lets the walk go to r from u, it lets it go to u from any other neighbour v, so that the walk can have come to u.
abbrev pub Closed : List ℕ → ℕ → (ℕ → ℕ → Bool) → Type 0
Closed ps n go = (r u v : ℕ) → r < n → u < n → v < n → adjacent ps r u ≡ true → adjacent ps v u ≡ true → r ≢ v → go r u ≡ true → go u v ≡ true

-- What is said on going to w from u is about the pair (w,u) and no other; `about a b` tests what is said of (a,b).
abbrev pub OfItsPair : {M : Type 0} → List ℕ → ℕ → (ℕ → ℕ → M → Bool) → (ℕ → ℕ → List M) → Type 0
OfItsPair ps n about says = (a b w u : ℕ) → w < n → u < n → adjacent ps u w ≡ true → kept (about a b) (says w u) ≡ when (eqb a w && eqb b u) (says w u)
