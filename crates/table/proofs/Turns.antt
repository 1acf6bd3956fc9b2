-- The reader's loop over the parent fields: what it knows at each node, and what it answers where it stops.
use mathlib.Core.Path.{◌≡◌, refl, sym, ap, ap₂, ◌∙◌}
use mathlib.Core.Bool.{true, false}
use mathlib.Core.Logic.{◌⊎◌}
use mathlib.Core.List.{List}
use Prim.Native.Nat.{ℕ, suc, ◌+◌, ◌-◌, ◌*◌, ◌≤◌, ◌<◌}
use native.Mathlib.Omega.{arith}
use lib.ListN.{length, set, replicate}
use Rattle.std.specs.Prelude.{Ok, Err}
use Rattle.fields.specs.Fields.{field}
use Rattle.fields.specs.Usable.{field_at}
use Rattle.fields.proofs.Rooms.{found, cut_off, first_found, first_cut_off}
use Rattle.packed.specs.Parts.{ends}
use Rattle.refusal.specs.declared.Refusal.{Refusal}
use Rattle.refusal.specs.declared.Refusal.TheVariants.{NodeCount, Parent, LeftOver}
use Rattle.table.specs.Layout.{long, parent_place, parent_at}
use Rattle.table.specs.Format.{Counted, GoodParents, no_count, bad_count, no_parent, bad_parent}
use Rattle.table.specs.Told.{told_reading}
use Rattle.table.specs.Reading.{parents_of, reading_of}
use Rattle.table.proofs.Widths.{long_le, place_zero, place_suc, field_near}
use Rattle.table.proofs.Verdicts.{right_none, right_more, ruled_end, reading_refused, reading_accepted}

-- the nodes before i are read and right
pub record Standing (s : List ℕ) (n : ℕ) (ps : List ℕ) (at i : ℕ) : Type 0 where
  pub some : 1 ≤ i
  pub left : i ≤ n
  pub here : at ≡ parent_place (i - 1)
  pub right : GoodParents s (i - 1)
  pub list : ps ≡ parents_of s (i - 1)

module _ (s : List ℕ) (n : ℕ) (c : Counted s n) where
  pub none_read : Standing s n (replicate 256 0) 9 1
  unfolding parents_of
  none_read = record { some = omega arith; left = c.some; here = sym place_zero; right = right_none s; list = refl }

  module _ (ps : List ℕ) (at i : ℕ) (st : Standing s n ps at i) where
    -- at the field of node i
    module _ (l : i < n) (w : ℕ) (e : w ≡ long (i - 1)) where
      pub near : at + w ≤ 524288
      near = field_near (i - 1) at w (omega (arith, c.few)) st.here e

      after : parent_place (suc (i - 1)) ≡ at + w
      after = omega (arith, place_suc (i - 1), st.here)

      pub parent_cut : (r : Refusal) → field_at s at w ≡ Err r → told_reading (Err r) ≡ reading_of s
      parent_cut r f =
          let q = cut_off s at w (omega (arith, long_le (i - 1) (omega (arith, c.few)))) r f in
          rw q.0 (sym (reading_refused s 0 (no_parent n (i - 1) c st.right (omega (arith, st.some)) (omega (arith, after, near, q.1)))))

      module _ (p : ℕ) (f : field_at s at w ≡ Ok p) where
        there : parent_place (suc (i - 1)) ≤ 8 * length s
        there = omega (arith, after, (found s at w p f).1)

        is : p ≡ parent_at s (i - 1)
        is = (found s at w p f).2 ∙ ap₂ (field s) st.here e

        pub parent_wrong : i ≤ p → told_reading (Err Parent) ≡ reading_of s
        parent_wrong h = sym (reading_refused s 2 (bad_parent n (i - 1) c st.right (omega (arith, st.some)) there (omega (arith, is, st.some))))

        pub parent_read : p < i → Standing s n (set ps i p) (at + w) (i + 1)
        parent_read h =
            record {
              some = omega arith;
              left = omega arith;
              here = rw back (sym after);
              right = rw back (right_more s (i - 1) st.right (record { there = there; smaller = omega (arith, is) }));
              list = rw back next;
            }
          where
            back : i + 1 - 1 ≡ suc (i - 1)
            back = omega (arith, st.some)

            forth : suc (i - 1) ≡ i
            forth = omega (arith, st.some)

            next : set ps i p ≡ parents_of s (suc (i - 1))
            next = unfold parents_of in rw (← st.list, ← is, forth) refl

    -- behind the last field
    module _ (l : n ≤ i) where
      last : i - 1 ≡ n - 1
      last = omega (arith, st.left)

      all : GoodParents s (n - 1)
      all = rw last at st.right

      stops : at ≡ parent_place (n - 1)
      stops = st.here ∙ ap parent_place last

      pub end_wrong : ends s at ≡ false → told_reading (Err LeftOver) ≡ reading_of s
      end_wrong f = sym (reading_refused s 3 (ruled_end s n c false (rw stops at f) all))

      pub end_right : ends s at ≡ true → told_reading (Ok (record { count = n; parents = ps })) ≡ reading_of s
      end_right f = sym (reading_accepted s (ruled_end s n c true (rw stops at f) all) ∙ rw (← c.count, ← last, st.list))

-- ---- the count

module _ (s : List ℕ) where
  pub count_cut : (r : Refusal) → field_at s 0 9 ≡ Err r → told_reading (Err r) ≡ reading_of s
  count_cut r f = let q = first_cut_off s 9 (omega arith) r f in rw q.0 (sym (reading_refused s 0 (no_count q.1)))

  module _ (n : ℕ) (f : field_at s 0 9 ≡ Ok n) where
    pub count_wrong : (n ≡ 0) ⊎ (256 < n) → told_reading (Err NodeCount) ≡ reading_of s
    count_wrong o = let c = first_found s 9 n f in sym (reading_refused s 1 (bad_count c.0 (rw c.1 at o)))

    pub counted : 1 ≤ n → n ≤ 256 → Counted s n
    counted l h = let c = first_found s 9 n f in record { there = c.0; count = c.1; some = l; few = h }
