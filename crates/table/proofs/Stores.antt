-- What the writer has stored, as it goes through bytes and nodes.
use mathlib.Core.Path.{◌≡◌, refl, sym, ap, ap₂, ◌∙◌}
use mathlib.Core.Bool.{true, false}
use mathlib.Core.List.{List, [], ◌++◌}
use Prim.Native.Nat.{ℕ, zero, suc, ◌+◌, ◌-◌, ◌*◌, ◌^◌, ◌≤◌, ◌<◌}
use native.Mathlib.Nat.{add-zero, zero-add}
use native.Mathlib.Omega.{arith}
use Rattle.std.proofs.lemmas.List.{length-take-le}
use lib.ListN.{length, take, drop, replicate, length-replicate, length-append}
use borrow.Author.Tests.{le-leb, lt-leb}
use Rattle.std.specs.Prelude.{Ok, Err}
use Rattle.fields.specs.Fields.{put_field}
use Rattle.fields.specs.Usable.{put_at}
use Rattle.fields.proofs.Kept.{length_kept}
use Rattle.fields.proofs.Rooms.{taken_is_put}
use Rattle.packed.specs.Parts.{bits_of_parts, put_all}
use Rattle.packed.proofs.Packing.{front_field, rest_kept}
use Rattle.refusal.specs.declared.Refusal.TheVariants.{Unsound, NoRoom}
use Rattle.tree.specs.Parents.{parent, Grown, InRule, in_rule}
use Rattle.tree.specs.declared.Tree.{Tree}
use Rattle.tree.proofs.InRule.{in_rule_exactly}
use Rattle.table.specs.Layout.{long, parent_place, table_size}
use Rattle.table.specs.Told.{told_written}
use Rattle.table.specs.Writing.{node_parts, table_parts, table_of, written_of, output_of}
use Rattle.table.proofs.Widths.{width_exactly, long_le, place_zero, place_suc, place_up, field_near}

-- ---- the parents of the nodes before i are put: with the rest put too, the bytes are what they are to be

pub record Stored (out₀ ps : List ℕ) (n : ℕ) (out : List ℕ) (at i : ℕ) : Type 0 where
  pub some : 1 ≤ i
  pub left : i ≤ n
  pub here : at ≡ parent_place (i - 1)
  pub rest : put_all out at (node_parts ps (i - 1) (n - i)) ≡ put_all out₀ 9 (node_parts ps 0 (n - 1))
  pub same : length out ≡ length out₀

parts_none : (ps : List ℕ) (k m : ℕ) → m ≡ 0 → node_parts ps k m ≡ []
unfolding node_parts
parts_none ps k m e = rw e

parts_next : (s ps : List ℕ) (at k m : ℕ) → put_all s at (node_parts ps k (suc m)) ≡ put_all (put_field s at (long k) (parent ps (suc k))) (at + long k) (node_parts ps (suc k) m)
unfolding put_all node_parts
parts_next s ps at k m = refl

module _ (out₀ ps : List ℕ) (n : ℕ) (some : 1 ≤ n) (few : n ≤ 256) where
  pub none_stored : Stored out₀ ps n out₀ 9 1
  none_stored = record { some = omega arith; left = some; here = sym place_zero; rest = refl; same = refl }

  module _ (out : List ℕ) (at i : ℕ) (st : Stored out₀ ps n out at i) where
    pub all_stored : n ≤ i → out ≡ put_all out₀ 9 (node_parts ps 0 (n - 1))
    unfolding put_all
    all_stored h = rw (parts_none ps (i - 1) (n - i) (omega arith)) at st.rest

    module _ (l : i < n) (w : ℕ) (e : w ≡ long (i - 1)) where
      pub store_near : at + w ≤ 524288
      store_near = field_near (i - 1) at w (omega arith) st.here e

      pub one_stored : Grown ps n → parent_place (n - 1) ≤ 8 * length out₀ → (out' : List ℕ) → out' ≡ put_at out at w (parent ps i)
          → Stored out₀ ps n out' (at + w) (i + 1)
      one_stored grown room out' f =
          record {
            some = omega arith;
            left = omega arith;
            here = rw back (sym (place_suc (i - 1) ∙ rw (← st.here, ← e) refl));
            rest = ap (λ (x : List ℕ). put_all x (at + w) (node_parts ps (i + 1 - 1) (n - (i + 1)))) put ∙ sym next ∙ st.rest;
            same = ap length put ∙ length_kept out at w (parent ps i) ∙ st.same;
          }
        where
          back : i + 1 - 1 ≡ suc (i - 1)
          back = omega (arith, st.some)

          forth : suc (i - 1) ≡ i
          forth = omega (arith, st.some)

          small : parent ps i < 2 ^ w
          small = rw e (omega (arith, (width_exactly (i - 1) (omega arith)).0, grown i st.some l))

          put : out' ≡ put_field out at w (parent ps i)
          put =
              f
              ∙ taken_is_put out at w (parent ps i) (omega (arith, long_le (i - 1) (omega arith)))
              (omega (arith, store_near, place_up (suc (i - 1)) (n - 1) (omega arith), place_suc (i - 1), st.here, st.same)) small

          next : put_all out at (node_parts ps (i - 1) (n - i)) ≡ put_all (put_field out at w (parent ps i)) (at + w) (node_parts ps (i + 1 - 1) (n - (i + 1)))
          next =
              let m : n - i ≡ suc (n - (i + 1)) = omega arith in
              ap (λ (x : ℕ). put_all out at (node_parts ps (i - 1) x)) m ∙ parts_next out ps at (i - 1) (n - (i + 1)) ∙ rw (forth, ← e, back, forth) refl

-- ---- where the fields end

nodes_end : (ps : List ℕ) (k m : ℕ) → parent_place k + bits_of_parts (node_parts ps k m) ≡ parent_place (k + m)
unfolding bits_of_parts node_parts
nodes_end ps k zero = simp add-zero refl
nodes_end ps k (suc m) = omega (arith, nodes_end ps (suc k) m, place_suc k, ap parent_place {x = suc k + m} {y = k + suc m} (omega arith))

nodes_total : (t : Tree) → 9 + bits_of_parts (node_parts t.parents 0 (t.count - 1)) ≡ parent_place (t.count - 1)
nodes_total t = omega (arith, nodes_end t.parents 0 (t.count - 1), place_zero, ap parent_place (zero-add (t.count - 1)))

pub table_end : (t : Tree) → bits_of_parts (table_parts t) ≡ parent_place (t.count - 1)
unfolding bits_of_parts
table_end t = nodes_total t

-- ---- the whole

module _ (t : Tree) (out : List ℕ) where
  pub out_of_rule : in_rule t.parents t.count ≡ false → (told_written (Err Unsound) ≡ written_of t (length out)) × (out ≡ output_of t out)
  unfolding written_of output_of
  out_of_rule e = (rw e, rw e)

  module _ (e : in_rule t.parents t.count ≡ true) (n : ℕ) (en : n ≡ t.count) (b : ℕ) (eb : b ≡ table_size n) where
    rule : InRule t.parents t.count
    rule = (in_rule_exactly t.parents t.count).0 e

    size : b ≡ table_size t.count
    size = rw en at eb

    pub too_short : length out < b → (told_written (Err NoRoom) ≡ written_of t (length out)) × (out ≡ output_of t out)
    unfolding written_of output_of
    too_short l = (rw (e, ← size, lt-leb b (length out) l), rw (e, ← size, lt-leb b (length out) l))

    -- the bytes cleared, then the count put
    module _ (l : b ≤ length out) (front out₂ : List ℕ) (e₁ : front ≡ replicate (length (take b out)) 0) (p : ℕ) (ep : p ≡ t.count) (e₂ : out₂ ≡ put_at (front ++ drop b out) 0 9 p) where
      abbrev zeros : List ℕ
      zeros = replicate b 0

      cleared : front ≡ zeros
      cleared = rw (← length-take-le b out l) e₁

      wide : length zeros ≡ b
      wide = length-replicate {A = ℕ} b 0

      head : 9 ≤ parent_place (t.count - 1)
      head = omega (arith, place_up 0 (t.count - 1) (omega arith), place_zero)

      joined : length (zeros ++ drop b out) ≡ b + length (drop b out)
      joined = length-append zeros (drop b out) ∙ ap (λ (x : ℕ). x + length (drop b out)) wide

      counted : out₂ ≡ put_field zeros 0 9 t.count ++ drop b out
      counted =
          e₂
          ∙ ap₂ (λ (x : List ℕ) (k : ℕ). put_at (x ++ drop b out) 0 9 k) cleared ep
          ∙ taken_is_put (zeros ++ drop b out) 0 9 t.count (omega arith) (omega (arith, joined, head, size)) (omega (arith, rule.few))
          ∙ front_field zeros (drop b out) 0 9 t.count (omega (arith, wide, head, size))

      pub room : parent_place (t.count - 1) ≤ 8 * length out₂
      room = omega (arith, ap length counted ∙ length-append (put_field zeros 0 9 t.count) (drop b out), length_kept zeros 0 9 t.count, wide, size)

      -- what storing the parents needs
      pub ready : (1 ≤ n) × ((n ≤ 256) × (Grown t.parents n × (parent_place (n - 1) ≤ 8 * length out₂)))
      ready = rw en (rule.some, (rule.few, (rule.grown, room)))

      pub written : (out₃ : List ℕ) → out₃ ≡ put_all out₂ 9 (node_parts t.parents 0 (n - 1))
          → (told_written (Ok b) ≡ written_of t (length out)) × (out₃ ≡ output_of t out)
      unfolding written_of output_of
      written out₃ e₃ = (rw (e, ← size, le-leb b (length out) l), table ∙ rw (e, ← size, le-leb b (length out) l))
        where
          is : table_of t ≡ put_all (put_field zeros 0 9 t.count) 9 (node_parts t.parents 0 (t.count - 1))
          is = unfold put_all in rw (table_end t, ← size)

          table : out₃ ≡ table_of t ++ drop b out
          table =
              e₃
              ∙ ap₂ (λ (x : List ℕ) (k : ℕ). put_all x 9 (node_parts t.parents 0 (k - 1))) counted en
              ∙ rest_kept (put_field zeros 0 9 t.count) (drop b out) 9 (node_parts t.parents 0 (t.count - 1))
              (omega (arith, length_kept zeros 0 9 t.count, wide, nodes_total t, size))
              ∙ ap (λ (x : List ℕ). x ++ drop b out) (sym is)
