-- The number is the paper's configuration: each list has one, and it is the number.
use mathlib.Core.Path.{◌≡◌, refl, subst, ◌∙◌}
use mathlib.Core.List.{List, [], ◌∷◌, ◌++◌, append-nil, append_assoc}
use Prim.Native.Nat.{ℕ, zero, suc, ◌≤◌}
use native.Mathlib.Omega.{arith}
use Rattle.rule.specs.Pair.{Request, combine, write, next, number_after}
use Rattle.rule.specs.Configurations.{Configuration, initial, combine_last, combine_write_last, write_write_last, one_write}
use Rattle.rule.specs.Promises.{Configured}
use Rattle.rule.proofs.Lists.{number_append, number_most}

two_writes : (k : ℕ) → k ≤ 2 → number_after 2 k (write ∷ write ∷ []) ≡ 0
unfolding number_after next
two_writes zero h = refl
two_writes (suc zero) h = refl
two_writes (suc (suc k)) h = omega arith

number_is : {l : List Request} {k : ℕ} → Configuration l k → number_after 2 0 l ≡ k
unfolding number_after next
number_is initial = refl
number_is (combine_last l) = number_append 2 0 l (combine ∷ [])
number_is (combine_write_last l) = number_append 2 0 l (combine ∷ write ∷ [])
number_is (write_write_last l) = number_append 2 0 l (write ∷ write ∷ []) ∙ two_writes (number_after 2 0 l) (number_most 2 0 l (omega arith))
number_is one_write = refl

-- one request more
more : {l : List Request} {k : ℕ} (r : Request) → Configuration l k → Configuration (l ++ (r ∷ [])) (next 2 k r)
unfolding next
more {l} combine c = combine_last l
more write initial = one_write
more write (combine_last l) = rw append_assoc (combine_write_last l)
more write (combine_write_last l) = rw append_assoc (rw append_assoc at (write_write_last (l ++ (combine ∷ []))))
more write (write_write_last l) = rw append_assoc (rw append_assoc at (write_write_last (l ++ (write ∷ []))))
more write one_write = write_write_last []

from : {l : List Request} {k : ℕ} (m : List Request) → Configuration l k → Configuration (l ++ m) (number_after 2 k m)
unfolding number_after
from {l = l} {k = k} [] c = rw append-nil c
from {l = l} {k = k} (r ∷ m) c = subst (λ i. Configuration i (number_after 2 (next 2 k r) m)) (append_assoc l (r ∷ []) m) (from {l = l ++ (r ∷ [])} {k = next 2 k r} m (more r c))

pub configured : Configured
configured l k = (number_is, λ e. subst (Configuration l) e (from l initial))
