-- The passes over the places say what the test of a session says.
use mathlib.Core.Path.{◌≡◌, refl, sym, ap₂, ◌∙◌}
use mathlib.Core.Bool.{Bool, true, false, ◌&&◌, and-eq-true_iff}
use mathlib.Core.Logic.{◌≢◌, inl, inr}
use mathlib.Core.List.{List}
use Prim.Native.Nat.{ℕ, ◌*◌, ◌-◌, ◌≤◌, ◌<◌}
use native.Mathlib.Omega.{arith}
use lib.Dec.{leb}
use lib.IntN.{pos}
use lib.ListN.{get_or, length, get_or-eq_default}
use borrow.Author.Tests.{leb-true, le-leb}
use Rattle.tree.specs.Parents.{parent, InRule, in_rule}
use Rattle.tree.specs.Ranges.{in_range}
use Rattle.tree.specs.Sides.{adjacent}
use Rattle.tree.specs.Sizes.{size, sizes}
use Rattle.tree.proofs.Cases.{lt_or_le}
use Rattle.tree.proofs.Every.{same_test}
use Rattle.tree.proofs.InRule.{in_rule_exactly}
use Rattle.tree.proofs.Listed.{sizes_read}
use Rattle.tree.proofs.Sizes.{sizes_add, size_below_lem, root_some}
use Rattle.session.specs.Holding.{lease_of, cache_of, sent_of}
use Rattle.session.specs.inner.Passes.{pairs, values, ordered}
use Rattle.session.specs.Soundness.{limit, Sound, in_limits, sound}
use Rattle.session.specs.declared.Session.{Session}
use Rattle.session.proofs.Indices.{pair_up, pair_down, to_child, to_parent, by_child}
use Rattle.session.proofs.AllEntries.{entry_used, entry_unused, entries_of, value_at, values_of}
use Rattle.session.proofs.Limits.{limits_parts, limits_of}
use Rattle.session.proofs.Ordering.{pass_says, pass_holds, by_kind, of_kinds}
use Rattle.session.proofs.Soundly.{limits, sound_exactly}

-- a tree in whose sizes the root has itself below it
module _ (ps : List ℕ) (n : ℕ) (size : List ℕ) (e : size ≡ sizes ps n) (some : get_or size 0 0 ≢ 0) where
  pub rooted : in_rule ps n ≡ true
  rooted = root_some ps n (λ z. some (rw e z))

  pub node_count : (1 ≤ n) × (n ≤ 256)
  node_count = let r = (in_rule_exactly ps n).0 rooted in (r.some, r.few)

-- every parent is a place, also of a node that is not there
parent_place_lem : (ps : List ℕ) (n : ℕ) → InRule ps n → length ps ≡ 256 → (j : ℕ) → parent ps j < 256
parent_place_lem ps n r long j = lt_or_le j 256
    (λ l. lt_or_le 0 j
    (λ z. lt_or_le j n (λ h. omega (arith, r.grown j z h)) (λ h. omega (arith, r.unused j l (inr h))))
    (λ z. omega (arith, r.unused j l (inl (omega arith)))))
    (λ l. let e : parent ps j ≡ 0 = get_or-eq_default ps 0 (omega arith) in omega arith)

module _ (s : Session) where
  abbrev ps : List ℕ
  ps = s.tree.parents

  abbrev n : ℕ
  n = s.tree.count

  abbrev twice : ℕ
  twice = 2 * s.accepted

  abbrev pub near_pass : Bool
  near_pass = pairs n twice false (sizes ps n) s.up.lease s.up.cache s.up.messages

  abbrev pub far_pass : Bool
  far_pass = pairs n twice true (sizes ps n) s.down.lease s.down.cache s.down.messages

  abbrev order_pass : Bool
  order_pass = ordered n ps s.up.lease s.down.lease

  -- all that is tested, in turn
  abbrev pub passes : Bool
  passes = in_rule ps n && (leb s.accepted limit && (((near_pass && far_pass) && values n s.values) && order_pass))

  -- past the first two tests the passes are made together
  pub together : {a b c d : Bool} → in_rule ps n ≡ true → leb s.accepted limit ≡ true → a ≡ near_pass → b ≡ far_pass → c ≡ values n s.values → d ≡ order_pass → (((a && b) && c) && d) ≡ passes
  together rule few e f g h = rw (rule, few, e, f, g, h)

  -- the entries at a child's place are those of both pairs of its edge
  module _ (r : InRule ps n) (i : ℕ) (z : 0 < i) (h : i < n) where
    up_limits : in_limits 2 (get_or (sizes ps n) i 0) twice (get_or s.up.lease i 0) (get_or s.up.cache i (pos 0)) (get_or s.up.messages i 0) ≡ limits 2 s i (parent ps i)
    up_limits =
        let g = r.grown i z h in
        rw (sizes_read ps n r i (omega (arith, r.few)), size_below_lem ps n r.grown i z h, pair_up 0 s.up.lease s.down.lease i (parent ps i) g, pair_up (pos 0) s.up.cache s.down.cache i (parent ps i) g, pair_up 0 s.up.messages s.down.messages i (parent ps i) g)

    down_limits : in_limits 2 (n - get_or (sizes ps n) i 0) twice (get_or s.down.lease i 0) (get_or s.down.cache i (pos 0)) (get_or s.down.messages i 0) ≡ limits 2 s (parent ps i) i
    down_limits =
        let g = r.grown i z h in
        let e : n - get_or (sizes ps n) i 0 ≡ size ps n (parent ps i) i =
        omega (arith, sizes_read ps n r i (omega (arith, r.few)), size_below_lem ps n r.grown i z h, sizes_add ps n r.grown i (parent ps i) h (omega arith) (to_child ps n r.grown i z h)) in
        rw (e, pair_down 0 s.up.lease s.down.lease (parent ps i) i g, pair_down (pos 0) s.up.cache s.down.cache (parent ps i) i g, pair_down 0 s.up.messages s.down.messages (parent ps i) i g)

  -- room is kept for 256 nodes
  module _ (parents_long : length ps ≡ 256) (up_long : length s.up.lease ≡ 256) (down_long : length s.down.lease ≡ 256) where
    up_place : InRule ps n → (j : ℕ) → parent ps j < length s.up.lease
    up_place r j = omega (arith, parent_place_lem ps n r parents_long j, up_long)

    down_place : InRule ps n → (j : ℕ) → parent ps j < length s.down.lease
    down_place r j = omega (arith, parent_place_lem ps n r parents_long j, down_long)

    -- the passes of a sound session
    module _ (f : Sound 2 s) where
      r : InRule ps n
      r = f.tree_in_rule

      all_limits : (u v : ℕ) → u < n → v < n → adjacent ps v u ≡ true → limits 2 s u v ≡ true
      all_limits u v hu hv a = limits_of 2 _ _ (lease_of s u v) (cache_of s u v) (sent_of s u v) (f.low u v hu hv a) (f.paid u v hu hv a) (f.caches_in u v hu hv a).within

      near_passes : near_pass ≡ true
      unfolding pairs
      near_passes = entries_of n twice (λ i. get_or (sizes ps n) i 0) s.up
          (λ i z h. up_limits r i z h ∙ all_limits i (parent ps i) h (omega (arith, r.grown i z h)) (to_child ps n r.grown i z h))
          (λ i h u. (f.no_pairs i h u).0)

      far_passes : far_pass ≡ true
      unfolding pairs
      far_passes = entries_of n twice (λ i. n - get_or (sizes ps n) i 0) s.down
          (λ i z h. down_limits r i z h ∙ all_limits (parent ps i) i (omega (arith, r.grown i z h)) h (to_parent ps n r.grown i z h))
          (λ i h u. (f.no_pairs i h u).1)

      small : (j : ℕ) → 0 < j → j < n → get_or s.down.lease j 0 ≤ 255
      small j z h =
          let g = r.grown j z h in
          let q = f.low (parent ps j) j (omega arith) h (to_parent ps n r.grown j z h) in
          omega (arith, rw (pair_down 0 s.up.lease s.down.lease (parent ps j) j g) at q)

      order_passes : order_pass ≡ true
      order_passes = pass_holds ps s.up.lease s.down.lease n (up_place r) (down_place r)
          (by_kind ps s.up.lease s.down.lease n r.grown (f.no_pairs 0 (omega arith) (inl refl)).0.no_lease f.ordered) small

    -- a session whose passes hold is sound
    sound_by : InRule ps n → s.accepted ≤ limit → near_pass ≡ true → far_pass ≡ true → values n s.values ≡ true → order_pass ≡ true → Sound 2 s
    unfolding pairs
    sound_by r few a b c d =
        record {
          tree_in_rule = r;
          low = λ u v hu hv e. (parts u v hu hv e).0;
          ordered = of_kinds ps s.up.lease s.down.lease n r.grown (pass_says ps s.up.lease s.down.lease n (up_place r) (down_place r) d);
          caches_in = λ u v hu hv e. record { within = (parts u v hu hv e).1.1 };
          few = few;
          paid = λ u v hu hv e. (parts u v hu hv e).1.0;
          no_pairs = λ i h u. (entry_unused n twice (λ i. get_or (sizes ps n) i 0) s.up a i h u, entry_unused n twice (λ i. n - get_or (sizes ps n) i 0) s.down b i h u);
          no_values = value_at n s.values c;
        }
      where
        parts : (u v : ℕ) → u < n → v < n → adjacent ps v u ≡ true → (lease_of s u v ≤ 2) × ((sent_of s u v ≤ twice) × (in_range (size ps n u v) (cache_of s u v) ≡ true))
        parts u v hu hv e =
            limits_parts 2 _ _ (lease_of s u v) (cache_of s u v) (sent_of s u v)
            (by_child ps n r.grown (λ u v. limits 2 s u v ≡ true)
            (λ i z h. sym (up_limits r i z h) ∙ entry_used n twice (λ i. get_or (sizes ps n) i 0) s.up a i z h)
            (λ i z h. sym (down_limits r i z h) ∙ entry_used n twice (λ i. n - get_or (sizes ps n) i 0) s.down b i z h) u v hu hv e)

    pub sound_passes : sound 2 s ≡ passes
    sound_passes = same_test _ _
        (λ e.
        let f = (sound_exactly 2 s).0 e in
        ap₂ ◌&&◌ ((in_rule_exactly ps n).1 f.tree_in_rule)
        (ap₂ ◌&&◌ (le-leb s.accepted limit f.few)
        (ap₂ ◌&&◌ (ap₂ ◌&&◌ (ap₂ ◌&&◌ (near_passes f) (far_passes f)) (values_of n s.values f.no_values)) (order_passes f))))
        (λ e.
        let p = (and-eq-true_iff (in_rule ps n) (leb s.accepted limit && (((near_pass && far_pass) && values n s.values) && order_pass))).0 e in
        let q = (and-eq-true_iff (leb s.accepted limit) (((near_pass && far_pass) && values n s.values) && order_pass)).0 p.1 in
        let t = (and-eq-true_iff ((near_pass && far_pass) && values n s.values) order_pass).0 q.1 in
        let u = (and-eq-true_iff (near_pass && far_pass) (values n s.values)).0 t.0 in
        let v = (and-eq-true_iff near_pass far_pass).0 u.0 in
        (sound_exactly 2 s).1 (sound_by ((in_rule_exactly ps n).0 p.0) (leb-true s.accepted limit q.0) v.0 v.1 u.1 t.1))
