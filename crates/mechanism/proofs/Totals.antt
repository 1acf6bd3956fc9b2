-- A node's value and what is known of its other neighbours, added up: what this depends on.
use mathlib.Core.Path.{◌≡◌, refl, ap, ap₂}
use mathlib.Core.Bool.{Bool, true, false}
use Prim.Native.Nat.{ℕ, zero, suc, ◌≤◌, ◌<◌}
use native.Mathlib.Omega.{arith}
use lib.IntN.{ℤ}
use Rattle.tree.specs.Operation.{Op}
use Rattle.tree.specs.Sides.{other}
use Rattle.tree.specs.Turns.{turn}
use Rattle.tree.proofs.Turns.{turn_inside}
use Rattle.mechanism.specs.Views.{View}
use Rattle.mechanism.specs.Combining.{Said, hears, step_if, sofar}
use Rattle.mechanism.specs.Spreading.{add_if, total}

module _ (op : Op ℤ) (q : View) where
  pub total_same : (g h : ℕ → ℤ) (u w k : ℕ) → u < q.count → k ≤ q.count → ((c : ℕ) → c < q.count → other q.parents u w c ≡ true → g c ≡ h c)
      → total op q g u w k ≡ total op q h u w k
  unfolding total
  total_same g h u w zero hu l e = refl
  total_same g h u w (suc k) hu l e =
      let c = turn q.count u k in
      one c (other q.parents u w c) (e c (turn_inside q.count u hu k (omega arith))) (total_same g h u w k hu (omega arith) e)
    where
      one : (c : ℕ) (b : Bool) → (b ≡ true → g c ≡ h c) → {s t : ℤ} → s ≡ t → add_if op q b s (g c) ≡ add_if op q b t (h c)
      one c true p r = ap₂ op.◌⊕◌ r (p refl)
      one c false p r = r

  -- the sum of a combine's walk at u
  pub sum_is : (next : ℕ → ℕ → Said) (u v k : ℕ) → (sofar op q next u v k).sum ≡ total op q (λ w. (hears op q next u w).sum) u v k
  unfolding sofar total step_if
  sum_is next u v zero = refl
  sum_is next u v (suc k) =
      let c = turn q.count u k in
      one c (other q.parents u v c) (sofar op q next u v k) (total op q (λ w. (hears op q next u w).sum) u v k) (sum_is next u v k)
    where
      one : (c : ℕ) (b : Bool) (s : Said) (t : ℤ) → s.sum ≡ t → (step_if op q b next u c s).sum ≡ add_if op q b t (hears op q next u c).sum
      one c true s t e = ap (λ a. op.◌⊕◌ a (hears op q next u c).sum) e
      one c false s t e = e
