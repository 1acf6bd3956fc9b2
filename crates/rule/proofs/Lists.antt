-- Number and messages over a list of requests: two lists one behind the other, and how large they get.
use mathlib.Core.Path.{◌≡◌, refl}
use mathlib.Core.List.{List, [], ◌∷◌, ◌++◌}
use Prim.Native.Nat.{ℕ, zero, suc, ◌≤◌}
use native.Mathlib.Omega.{arith}
use Rattle.rule.specs.Pair.{Request, combine, write, next, price, number_after, messages}
use Rattle.rule.specs.Promises.{NumberMost, MessagesMost}

pub number_append : (b k : ℕ) (l m : List Request) → number_after b k (l ++ m) ≡ number_after b (number_after b k l) m
unfolding number_after
number_append b k [] m = refl
number_append b k (r ∷ l) m = number_append b (next b k r) l m

next_most : (b k : ℕ) (r : Request) → k ≤ b → next b k r ≤ b
unfolding next
next_most b k combine h = omega arith
next_most b zero write h = omega arith
next_most b (suc k) write h = omega arith

pub number_most : NumberMost
unfolding number_after
number_most b k [] h = h
number_most b k (r ∷ l) h = number_most b (next b k r) l (next_most b k r h)

price_most : (k : ℕ) (r : Request) → price k r ≤ 2
unfolding price
price_most zero combine = omega arith
price_most (suc k) combine = omega arith
price_most zero write = omega arith
price_most (suc zero) write = omega arith
price_most (suc (suc k)) write = omega arith

pub messages_most : MessagesMost
unfolding messages
messages_most b k [] = omega arith
messages_most b k (r ∷ l) = omega (arith, price_most k r, messages_most b (next b k r) l)
