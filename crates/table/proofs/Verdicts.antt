-- The reader's refusal is the one that the format gives.
use mathlib.Core.Path.{◌≡◌, refl, ap, ◌∙◌}
use mathlib.Core.Bool.{Bool, true, false, cond}
use mathlib.Core.List.{List}
use mathlib.Core.Logic.{inl, inr}
use Prim.Native.Nat.{ℕ, zero, suc, ◌+◌, ◌-◌, ◌*◌, ◌≤◌, ◌<◌}
use native.Mathlib.Nat.{not-suc-le-zero}
use native.Mathlib.Omega.{arith}
use lib.ListN.{length}
use borrow.Author.Tests.{le-leb, lt-leb}
use Rattle.fields.specs.Usable.{usable_bits}
use Rattle.fields.proofs.Verdicts.{verdict_exactly}
use Rattle.packed.specs.Parts.{ends}
use Rattle.packed.proofs.Filling.{ends_exactly, left_over_exactly}
use Rattle.tree.proofs.Cases.{order, lt_or_le}
use Rattle.table.specs.Layout.{parent_place, count_at, parent_at}
use Rattle.table.specs.Format.{Counted, GoodParent, GoodParents, Ruled, no_count, bad_count, no_parent, bad_parent, left_over, whole}
use Rattle.tree.specs.declared.Tree.{Tree}
use Rattle.table.specs.Reading.{first, node_fault, nodes_fault, refusal_of, tree_of, accepted, refused, answer, reading_of}
use Rattle.table.specs.Promises.{TableRuledExactly, TableRefusedWithZeros}
use Rattle.table.proofs.Widths.{place_zero, place_le}

-- ---- nodes 1 to k

module _ (s : List ℕ) where
  pub right_none : GoodParents s 0
  right_none j l = absurd (not-suc-le-zero l)

  pub right_more : (k : ℕ) → GoodParents s k → GoodParent s k → GoodParents s (suc k)
  right_more k f r j l = order j k (λ h. f j h) (λ e. rw e r) (λ h. absurd (omega arith))

  node_right : (k : ℕ) → GoodParent s k → node_fault s k ≡ 0
  node_right k r = rw (le-leb (parent_place (suc k)) (8 * length s) r.there, le-leb (parent_at s k) k (omega (arith, r.smaller)))

  nodes_right : (k : ℕ) → GoodParents s k → nodes_fault s k ≡ 0
  unfolding nodes_fault
  nodes_right zero f = refl
  nodes_right (suc k) f = ap (λ (r : ℕ). first r (node_fault s k)) (nodes_right k (λ j l. f j (omega arith))) ∙ node_right k (f k (omega arith))

  -- a fault stays
  nodes_stay : (k m r : ℕ) → k < m → GoodParents s k → node_fault s k ≡ suc r → nodes_fault s m ≡ suc r
  unfolding nodes_fault
  nodes_stay k zero r l f e = absurd (not-suc-le-zero l)
  nodes_stay k (suc m) r l f e = order k m
      (λ h. ap (λ (x : ℕ). first x (node_fault s m)) (nodes_stay k m r h f e))
      (λ q. ap (λ (x : ℕ). first x (node_fault s m)) (rw q at (nodes_right k f)) ∙ (rw q at e))
      (λ h. absurd (omega arith))

-- ---- the whole

module _ (s : List ℕ) (n : ℕ) (c : Counted s n) where
  refusal_rest : refusal_of s ≡ first (nodes_fault s (n - 1)) (cond (ends s (parent_place (n - 1))) 0 4)
  unfolding refusal_of
  refusal_rest = rw (le-leb 9 (8 * length s) c.there, ← c.count, le-leb 1 n c.some, le-leb n 256 c.few)

  fault : (k r : ℕ) → GoodParents s k → k + 1 < n → node_fault s k ≡ suc r → refusal_of s ≡ suc r
  fault k r f l e = refusal_rest ∙ ap (λ (x : ℕ). first x (cond (ends s (parent_place (n - 1))) 0 4)) (nodes_stay s k (n - 1) r (omega arith) f e)

  module _ (f : GoodParents s (n - 1)) where
    all_right : refusal_of s ≡ cond (ends s (parent_place (n - 1))) 0 4
    all_right = refusal_rest ∙ ap (λ (x : ℕ). first x (cond (ends s (parent_place (n - 1))) 0 4)) (nodes_right s (n - 1) f)

    -- all fields lie in the usable bytes
    pub fields_lie : parent_place (n - 1) ≤ usable_bits (length s)
    fields_lie = omega (arith, there (n - 1) f, place_le (n - 1) (omega (arith, c.few)), c.few)
      where
        there : (m : ℕ) → GoodParents s m → parent_place m ≤ 8 * length s
        there zero g = omega (arith, place_zero, c.there)
        there (suc m) g = (g m (omega arith)).there

pub ruled_once : (s : List ℕ) (r : ℕ) → Ruled s r → refusal_of s ≡ r
ruled_once s r (no_count h) = unfold refusal_of in rw (lt-leb 9 (8 * length s) h)
ruled_once s r (bad_count h (inl e)) = unfold refusal_of in rw (le-leb 9 (8 * length s) h, e)
ruled_once s r (bad_count h (inr l)) = unfold refusal_of in rw (le-leb 9 (8 * length s) h, le-leb 1 (count_at s) (omega arith), lt-leb (count_at s) 256 l)
ruled_once s r (no_parent n k c f l h) = fault s n c k 0 f l (rw (lt-leb (parent_place (suc k)) (8 * length s) h))
ruled_once s r (bad_parent n k c f l h w) = fault s n c k 2 f l (rw (le-leb (parent_place (suc k)) (8 * length s) h, lt-leb (parent_at s k) k w))
ruled_once s r (left_over n c f o) = all_right s n c f ∙ ap (λ (b : Bool). cond b 0 4) ((left_over_exactly s (parent_place (n - 1)) (fields_lie s n c f)).1 o)
ruled_once s r (whole n c f b z) = all_right s n c f ∙ ap (λ (b : Bool). cond b 0 4) ((ends_exactly s (parent_place (n - 1))).1 (fields_lie s n c f, b, z))

-- ---- every byte list is judged

module _ (s : List ℕ) (n : ℕ) (c : Counted s n) where
  pub ruled_end : (b : Bool) → ends s (parent_place (n - 1)) ≡ b → GoodParents s (n - 1) → Ruled s (cond b 0 4)
  ruled_end true e f = let h = (ends_exactly s (parent_place (n - 1))).0 e in whole n c f h.1 h.2
  ruled_end false e f = left_over n c f ((left_over_exactly s (parent_place (n - 1)) (fields_lie s n c f)).0 e)

  ruled_nodes : (m k : ℕ) → k + m ≡ n - 1 → GoodParents s k → (r : ℕ) × Ruled s r
  ruled_nodes zero k e f = let q : k ≡ n - 1 = omega arith in (cond (ends s (parent_place (n - 1))) 0 4, ruled_end (ends s (parent_place (n - 1))) refl (rw q at f))
  ruled_nodes (suc m) k e f = lt_or_le (8 * length s) (parent_place (suc k))
      (λ h. (1, no_parent n k c f (omega arith) h))
      (λ h. lt_or_le k (parent_at s k)
      (λ w. (3, bad_parent n k c f (omega arith) h w))
      (λ w. ruled_nodes m (suc k) (omega arith) (right_more s k f (record { there = h; smaller = omega arith }))))

ruled : (s : List ℕ) → (r : ℕ) × Ruled s r
ruled s = lt_or_le (8 * length s) 9
    (λ h. (1, no_count h))
    (λ h. lt_or_le (count_at s) 1
    (λ l. (2, bad_count h (inl (omega arith))))
    (λ l. lt_or_le 256 (count_at s)
    (λ m. (2, bad_count h (inr m)))
    (λ m. ruled_nodes s (count_at s) (record { there = h; count = refl; some = l; few = m }) (count_at s - 1) 0 (omega arith) (right_none s))))

-- ---- the answer

answer_refusal : (r : ℕ) (t : Tree) → (answer r t).refusal ≡ r
answer_refusal zero t = refl
answer_refusal (suc r) t = refl

pub reading_refusal : (s : List ℕ) → (reading_of s).refusal ≡ refusal_of s
unfolding reading_of
reading_refusal s = answer_refusal (refusal_of s) (tree_of s)

pub table_ruled_exactly : TableRuledExactly
table_ruled_exactly s = verdict_exactly (Ruled s) (reading_of s).refusal (λ r j. reading_refusal s ∙ ruled_once s r j) (ruled s)

pub reading_refused : (s : List ℕ) (r : ℕ) → Ruled s (suc r) → reading_of s ≡ refused (suc r)
unfolding reading_of
reading_refused s r j = rw (ruled_once s (suc r) j)

pub table_refused_with_zeros : TableRefusedWithZeros
table_refused_with_zeros s h = go (reading_of s).refusal refl h
  where
    go : (r : ℕ) → (reading_of s).refusal ≡ r → 0 < r → reading_of s ≡ refused r
    go zero e l = absurd (not-suc-le-zero l)
    go (suc r) e l = reading_refused s r ((table_ruled_exactly s (suc r)).0 e)

pub reading_accepted : (s : List ℕ) → Ruled s 0 → reading_of s ≡ accepted (tree_of s)
unfolding reading_of
reading_accepted s j = rw (ruled_once s 0 j)
