-- One step of a pair: its number stays at most b and in order with those further in, and it costs at most two messages.
use mathlib.Core.Path.{◌≡◌, refl}
use mathlib.Core.Bool.{Bool, true, false, false≢true}
use Prim.Native.Nat.{ℕ, zero, suc, ◌≤◌}
use native.Mathlib.Omega.{arith}
use Rattle.rule.specs.Pair.{Request, combine, write, next, price}
use Rattle.mechanism.specs.Pairwise.{moves, pays}

-- where one side lies within another, and has the larger number, it has it after a request too
pub moves_mono : (b : ℕ) (r : Request) (p t : Bool) → (t ≡ true → p ≡ true) → (j k : ℕ) → j ≤ k → j ≤ b → moves b r p j ≤ moves b r t k
unfolding moves next
moves_mono b r false true e j k h i = absurd (false≢true (e refl))
moves_mono b combine true true e j k h i = h
moves_mono b combine true false e j k h i = i
moves_mono b combine false false e j k h i = omega arith
moves_mono b write true true e zero zero h i = omega arith
moves_mono b write true true e zero (suc k) h i = omega arith
moves_mono b write true true e (suc j) zero h i = omega arith
moves_mono b write true true e (suc j) (suc k) h i = omega arith
moves_mono b write true false e zero k h i = omega arith
moves_mono b write true false e (suc j) k h i = omega arith
moves_mono b write false false e j k h i = h

pub moves_small : (b : ℕ) (r : Request) (p : Bool) (k : ℕ) → k ≤ b → moves b r p k ≤ b
unfolding moves next
moves_small b combine true k h = h
moves_small b combine false k h = omega arith
moves_small b write true zero h = omega arith
moves_small b write true (suc k) h = omega arith
moves_small b write false k h = h

pub pays_two : (r : Request) (p : Bool) (k : ℕ) → pays r p k ≤ 2
unfolding pays price
pays_two combine true k = omega arith
pays_two combine false zero = omega arith
pays_two combine false (suc k) = omega arith
pays_two write true zero = omega arith
pays_two write true (suc zero) = omega arith
pays_two write true (suc (suc k)) = omega arith
pays_two write false k = omega arith
