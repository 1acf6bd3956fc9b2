-- Which bytes are a tree's table: the reader accepts exactly those that hold the fields of a tree in rule.
use mathlib.Core.Path.{◌≡◌, refl, sym, ap, ◌∙◌}
use mathlib.Core.List.{List}
use mathlib.Core.Logic.{◌⊎◌, inl, inr, ⊎_elim}
use Prim.Native.Nat.{ℕ, zero, suc, ◌+◌, ◌-◌, ◌≤◌, ◌<◌}
use native.Mathlib.Nat.{not-suc-le-zero}
use native.Mathlib.Omega.{arith}
use lib.ListN.{length, length-set}
use lib.Seq.{get_or-set_same, get_or-set_other, ext_get_or}
use Rattle.packed.specs.Parts.{bytes_for, Fit, Holds, Packs}
use Rattle.packed.proofs.Zeros.{zeros_at}
use Rattle.tree.specs.Parents.{parent, InRule}
use Rattle.tree.specs.declared.Tree.{Tree}
use Rattle.tree.proofs.Cases.{order, lt_or_le}
use Rattle.table.specs.Layout.{parent_place, table_size, count_at, parent_at}
use Rattle.table.specs.Format.{Counted, GoodParents, filling, Ruled, no_count, bad_count, no_parent, bad_parent, left_over, whole}
use Rattle.table.specs.Reading.{parents_of, tree_of}
use Rattle.table.specs.Writing.{node_parts, table_parts}
use Rattle.table.proofs.Widths.{width_exactly, place_zero, place_suc, place_up}
use Rattle.table.proofs.Stores.{table_end}

-- ---- the parent fields of m nodes from node k + 1 on

nodes_hold : (s ps : List ℕ) (k m : ℕ) → ((j : ℕ) → k ≤ j → j < k + m → parent_at s j ≡ parent ps (suc j)) → Holds s (parent_place k) (node_parts ps k m)
unfolding node_parts
nodes_hold s ps k zero f = tt
nodes_hold s ps k (suc m) f = (f k (omega arith) (omega arith), rw place_suc at (nodes_hold s ps (suc k) m (λ j a b. f j (omega arith) (omega arith))))

node_held : (s ps : List ℕ) (k m : ℕ) → Holds s (parent_place k) (node_parts ps k m) → (j : ℕ) → k ≤ j → j < k + m → parent_at s j ≡ parent ps (suc j)
unfolding node_parts
node_held s ps k zero h j a b = absurd (none j a b)
  where
    none : (j : ℕ) → k ≤ j → j < k + 0 → ⊥
    none j a b = omega arith
node_held s ps k (suc m) h j a b = order k j
    (λ l. node_held s ps (suc k) m (rw (← place_suc k) at h.1) j l (omega arith))
    (λ e. rw (← e) h.0)
    (λ l. absurd (omega arith))

nodes_fit : (ps : List ℕ) (n : ℕ) → InRule ps n → (k m : ℕ) → k + m < n → Fit (node_parts ps k m)
unfolding node_parts
nodes_fit ps n r k zero h = tt
nodes_fit ps n r k (suc m) h =
    (omega (arith, r.grown (suc k) (omega arith) (omega arith), (width_exactly k (omega (arith, r.few))).0), nodes_fit ps n r (suc k) m (omega arith))

pub table_fits : (t : Tree) → InRule t.parents t.count → Fit (table_parts t)
table_fits t r = (omega (arith, r.few), nodes_fit t.parents t.count r 0 (t.count - 1) (omega (arith, r.some)))

-- ---- the list of parents that the reader makes

pub parents_length : (s : List ℕ) (k : ℕ) → length (parents_of s k) ≡ 256
unfolding parents_of
parents_length s zero = refl
parents_length s (suc k) = length-set (parents_of s k) (suc k) (parent_at s k) ∙ parents_length s k

parents_used : (s : List ℕ) (k j : ℕ) → j < k → k ≤ 255 → parent (parents_of s k) (suc j) ≡ parent_at s j
unfolding parents_of
parents_used s zero j l h = absurd (not-suc-le-zero l)
parents_used s (suc k) j l h = order j k
    (λ q. get_or-set_other (parents_of s k) (suc k) (suc j) (parent_at s k) 0 (omega arith) ∙ parents_used s k j q (omega arith))
    (λ e. rw e (get_or-set_same (parents_of s k) (suc k) (parent_at s k) 0 (omega (arith, parents_length s k))))
    (λ q. absurd (omega arith))

parents_unused : (s : List ℕ) (k i : ℕ) → (i ≡ 0) ⊎ (k < i) → parent (parents_of s k) i ≡ 0
unfolding parents_of
parents_unused s zero i o = zeros_at 256 i
parents_unused s (suc k) i o =
    get_or-set_other (parents_of s k) (suc k) i (parent_at s k) 0 (⊎_elim (λ (z : i ≡ 0). omega arith) (λ (l : suc k < i). omega arith) o)
    ∙ parents_unused s k i (⊎_elim (λ z. inl z) (λ (l : suc k < i). inr (omega arith)) o)

-- ---- what is accepted

record Accepted (s : List ℕ) (n : ℕ) : Type 0 where
  counted : Counted s n
  right : GoodParents s (n - 1)
  bytes : length s ≡ table_size n
  filled : filling s n ≡ 0

accepted_by : (s : List ℕ) (r : ℕ) → Ruled s r → r ≡ 0 → Accepted s (count_at s)
accepted_by s r (whole n c f b z) e = let a : Accepted s n = record { counted = c; right = f; bytes = b; filled = z } in rw c.count at a
accepted_by s r (no_count h) e = absurd (omega arith)
accepted_by s r (bad_count h o) e = absurd (omega arith)
accepted_by s r (no_parent n k c f l h) e = absurd (omega arith)
accepted_by s r (bad_parent n k c f l h w) e = absurd (omega arith)
accepted_by s r (left_over n c f o) e = absurd (omega arith)

module _ (s : List ℕ) (j : Ruled s 0) where
  a : Accepted s (count_at s)
  a = accepted_by s 0 j refl

  pub accepted_rule : InRule (parents_of s (count_at s - 1)) (count_at s)
  accepted_rule =
      record {
        some = a.counted.some;
        few = a.counted.few;
        grown = λ i z l. used i z l;
        unused = λ i h o. parents_unused s (count_at s - 1) i (⊎_elim (λ e. inl e) (λ (l : count_at s ≤ i). inr (omega (arith, a.counted.some))) o);
      }
    where
      used : (i : ℕ) → 0 < i → i < count_at s → parent (parents_of s (count_at s - 1)) i < i
      used zero z l = absurd (not-suc-le-zero z)
      used (suc i) z l = rw (parents_used s (count_at s - 1) i (omega arith) (omega (arith, a.counted.few))) (a.right i (omega arith)).smaller

  pub accepted_packs : Packs s (table_parts (tree_of s))
  accepted_packs =
      let t = table_end (tree_of s) in
      record {
        bytes = rw t a.bytes;
        parts = (refl, rw place_zero at (nodes_hold s (parents_of s (count_at s - 1)) 0 (count_at s - 1) (λ j x y. sym (parents_used s (count_at s - 1) j (omega arith) (omega (arith, a.counted.few))))));
        filling = rw t a.filled;
      }

-- ---- and what a tree in rule packs is accepted

module _ (s : List ℕ) (t : Tree) (r : InRule t.parents t.count) (h : Packs s (table_parts t)) where
  bytes : length s ≡ table_size t.count
  bytes = h.bytes ∙ ap bytes_for (table_end t)

  held : (k : ℕ) → k + 1 < t.count → parent_at s k ≡ parent t.parents (suc k)
  held k l = node_held s t.parents 0 (t.count - 1) (rw (← place_zero) at h.parts.1) k (omega arith) (omega arith)

  pub packed_ruled : Ruled s 0
  packed_ruled =
      whole t.count
      (record { there = omega (arith, bytes, place_up 0 (t.count - 1) (omega arith), place_zero); count = sym h.parts.0; some = r.some; few = r.few })
      (λ k l. record {
        there = omega (arith, bytes, place_up (suc k) (t.count - 1) (omega arith));
        smaller = rw (held k (omega arith)) (r.grown (suc k) (omega arith) (omega arith));
      })
      bytes
      (rw (table_end t) at h.filling)

  pub packed_tree : length t.parents ≡ 256 → tree_of s ≡ t
  packed_tree wide = rw (h.parts.0, same)
    where
      each : (i : ℕ) → i < 256 → parent (parents_of s (t.count - 1)) i ≡ parent t.parents i
      each zero l = parents_unused s (t.count - 1) 0 (inl refl) ∙ sym (r.unused 0 l (inl refl))
      each (suc i) l = lt_or_le (suc i) t.count
          (λ m. parents_used s (t.count - 1) i (omega arith) (omega (arith, r.few)) ∙ held i (omega arith))
          (λ m. parents_unused s (t.count - 1) (suc i) (inr (omega (arith, r.some))) ∙ sym (r.unused (suc i) l (inr m)))

      same : parents_of s (t.count - 1) ≡ t.parents
      same = ext_get_or 0 (parents_of s (t.count - 1)) t.parents (parents_length s (t.count - 1) ∙ sym wide) (λ i l. each i (omega (arith, parents_length s (t.count - 1))))
