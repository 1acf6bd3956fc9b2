-- The total of a node is in the range of its side, where what is known of each neighbour is in that of the neighbour's side; and no part of it is larger than the tree.
use mathlib.Core.Path.{◌≡◌, refl}
use mathlib.Core.Bool.{Bool, true, false}
use Prim.Native.Nat.{ℕ, zero, suc, ◌+◌, ◌-◌, ◌≤◌, ◌<◌}
use native.Mathlib.Nat.{le_refl, add-zero, add_assoc}
use native.Mathlib.Omega.{arith}
use lib.IntN.{ℤ, pos, +ℤ_idr}
use Rattle.tree.specs.Operation.{Op, fold, pick, plus, sum}
use Rattle.tree.specs.Parents.{Grown}
use Rattle.tree.specs.Sides.{other}
use Rattle.tree.specs.Sizes.{size}
use Rattle.tree.specs.Ranges.{Range}
use Rattle.tree.specs.Turns.{turn}
use Rattle.tree.proofs.Folds.{zeros}
use Rattle.tree.proofs.Ranges.{range_of_one, range_adds, range_of_nodes}
use Rattle.tree.proofs.SideLaw.{side_law}
use Rattle.tree.proofs.Sizes.{all_ones}
use Rattle.tree.proofs.Turns.{turn_inside, any_order}
use Rattle.mechanism.specs.Views.{View}
use Rattle.mechanism.specs.Spreading.{add_if, total}
use Rattle.mechanism.specs.Pairwise.{Ranging}
use Rattle.mechanism.proofs.Others.{fold_first, beyond}
use Rattle.mechanism.proofs.Told.{Edge}

-- more nodes have a wider range: each adds a 0
pub wider : (j k : ℕ) (z : ℤ) → j ≤ k → Range j z → Range k z
wider j k z l r =
    let e : j + (k - j) ≡ k = omega arith in
    rw (+ℤ_idr z, e) at (range_adds j (k - j) z (pos 0) r (rw (all_ones (k - j), zeros sum (λ i. pos 0) (k - j) (λ i h. refl)) at (range_of_nodes (λ i. pos 0) (λ i. true) (k - j) (λ i h. (range_of_one (pos 0)).1 refl))))

module _ (op : Op ℤ) (ranging : Ranging op) (q : View) (grown : Grown q.parents q.count) (ones : (u : ℕ) → Range 1 (q.value u)) where
  -- the nodes beyond u's first k candidates that are neighbours but w
  abbrev first : ℕ → ℕ → ℕ → ℕ
  first u w k = fold plus (λ j. pick plus (other q.parents u w (turn q.count u j)) (size q.parents q.count (turn q.count u j) u)) k

  total_in : (g : ℕ → ℤ) (u w k : ℕ) → u < q.count → k ≤ q.count → ((c : ℕ) → c < q.count → other q.parents u w c ≡ true → Range (size q.parents q.count c u) (g c))
      → Range (1 + first u w k) (total op q g u w k)
  unfolding total
  total_in g u w zero hu l h = ones u
  total_in g u w (suc k) hu l h =
      let c = turn q.count u k in
      one c (other q.parents u w c) (h c (turn_inside q.count u hu k (omega arith))) (first u w k) (total op q g u w k) (total_in g u w k hu (omega arith) h)
    where
      one : (c : ℕ) (b : Bool) → (b ≡ true → Range (size q.parents q.count c u) (g c)) → (m : ℕ) (t : ℤ) → Range (1 + m) t
          → Range (1 + (m + pick plus b (size q.parents q.count c u))) (add_if op q b t (g c))
      one c true p m t r = rw (add_assoc 1 m (size q.parents q.count c u)) at (ranging (1 + m) (size q.parents q.count c u) t (g c) r (p refl))
      one c false p m t r = rw (add-zero m) r

  -- all of them
  first_is : (u w : ℕ) → u < q.count → first u w q.count ≡ fold plus (λ c. pick plus (other q.parents u w c) (size q.parents q.count c u)) q.count
  first_is u w hu = any_order q.count u hu ℕ plus (λ c. pick plus (other q.parents u w c) (size q.parents q.count c u))

  pub side_in : (g : ℕ → ℤ) (u v : ℕ) → Edge q u v → ((c : ℕ) → c < q.count → other q.parents u v c ≡ true → Range (size q.parents q.count c u) (g c))
      → Range (size q.parents q.count u v) (total op q g u v q.count)
  side_in g u v p h =
      rw (side_law q.parents q.count grown ℕ plus (λ j. 1) u v p.near p.edge, ← (first_is u v p.near))
      (total_in g u v q.count p.near (le_refl q.count) h)

  pub part_in : (g : ℕ → ℤ) (u w k : ℕ) → u < q.count → k ≤ q.count → ((c : ℕ) → c < q.count → other q.parents u w c ≡ true → Range (size q.parents q.count c u) (g c))
      → Range q.count (total op q g u w k)
  part_in g u w k hu l h = wider (1 + first u w k) q.count (total op q g u w k)
      (omega (arith, beyond q.parents q.count grown u w hu, first_is u w hu, fold_first (λ j. pick plus (other q.parents u w (turn q.count u j)) (size q.parents q.count (turn q.count u j) u)) k q.count l))
      (total_in g u w k hu l h)
