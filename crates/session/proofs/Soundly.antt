-- The test of a session says what it should.
use mathlib.Core.Path.{◌≡◌, sym, ap₂, ◌∙◌}
use mathlib.Core.Bool.{Bool, true, not, ◌&&◌, ◌||◌, true≢false, and-false, and-eq-true_iff}
use mathlib.Core.Logic.{◌⊎◌, inl, inr}
use Prim.Native.Nat.{ℕ, ◌*◌, ◌≤◌}
use native.Mathlib.Omega.{arith}
use lib.Dec.{leb, ltb}
use borrow.Author.Tests.{leb-true, le-leb, lt-ltb, le-ltb}
use Rattle.tree.specs.Every.{every}
use Rattle.tree.specs.Parents.{in_rule}
use Rattle.tree.specs.Ranges.{in_range}
use Rattle.tree.specs.Sizes.{size}
use Rattle.tree.proofs.Cases.{lt_or_le}
use Rattle.tree.proofs.Every.{every_at, every_of}
use Rattle.tree.proofs.InRule.{in_rule_exactly}
use Rattle.session.specs.Holding.{value_of, lease_of, cache_of, sent_of}
use Rattle.session.specs.inner.Passes.{values}
use Rattle.session.specs.Promises.{SoundExactly}
use Rattle.session.specs.Soundness.{limit, Sound, every_pair, every_two, in_limits, zero_at, no_pair, sound}
use Rattle.session.specs.declared.Session.{Session}
use Rattle.session.proofs.Indices.{held_if, if_held, pair_at_lem, pair_of, two_at, two_of}
use Rattle.session.proofs.AllEntries.{zero_parts, zero_of, value_at, values_of}
use Rattle.session.proofs.Limits.{limits_parts, limits_of}

-- there is no node i that has a pair
no_pair_of : (n i : ℕ) → (i ≡ 0) ⊎ (n ≤ i) → no_pair n i ≡ true
no_pair_of n i (inl e) = rw (le-ltb 0 i (omega arith))
no_pair_of n i (inr h) = rw (le-ltb i n h, and-false (ltb 0 i))

no_pair_is : (n i : ℕ) → no_pair n i ≡ true → (i ≡ 0) ⊎ (n ≤ i)
no_pair_is n i e = lt_or_le 0 i
    (λ z. lt_or_le i n (λ h. absurd (true≢false (sym e ∙ rw (lt-ltb 0 i z, lt-ltb i n h)))) (λ h. inr h))
    (λ z. inl (omega arith))

-- the tests of a session, one by one
module _ (b : ℕ) (s : Session) where
  abbrev pub limits : ℕ → ℕ → Bool
  limits u v = in_limits b (size s.tree.parents s.tree.count u v) (2 * s.accepted) (lease_of s u v) (cache_of s u v) (sent_of s u v)

  abbrev inequality : ℕ → ℕ → ℕ → Bool
  inequality r u v = leb (lease_of s u v) (lease_of s r u)

  abbrev zeros : ℕ → Bool
  zeros i = not (no_pair s.tree.count i) || (zero_at s.up i && zero_at s.down i)

  abbrev empties : Bool
  empties = every (λ i. ltb i s.tree.count || in_range 0 (value_of s i)) 256

  sound_facts : sound b s ≡ true → Sound b s
  unfolding sound values
  sound_facts e =
      let ps = s.tree.parents in
      let n = s.tree.count in
      let p = (and-eq-true_iff (in_rule ps n) _).0 e in
      let q = (and-eq-true_iff (leb s.accepted limit) _).0 p.1 in
      let r = (and-eq-true_iff (every_pair ps n limits) _).0 q.1 in
      let t = (and-eq-true_iff (every_two ps n inequality) _).0 r.1 in
      let w = (and-eq-true_iff (every zeros 256) empties).0 t.1 in
      record {
        tree_in_rule = (in_rule_exactly ps n).0 p.0;
        low = λ u v hu hv a. (limits_parts b _ _ (lease_of s u v) (cache_of s u v) (sent_of s u v) (pair_at_lem ps n limits r.0 u v hu hv a)).0;
        ordered = λ r u v hr hu hv a b d. leb-true (lease_of s u v) (lease_of s r u) (two_at ps n inequality t.0 r u v hr hu hv a b d);
        caches_in = λ u v hu hv a. record { within = (limits_parts b _ _ (lease_of s u v) (cache_of s u v) (sent_of s u v) (pair_at_lem ps n limits r.0 u v hu hv a)).1.1 };
        few = leb-true s.accepted limit q.0;
        paid = λ u v hu hv a. (limits_parts b _ _ (lease_of s u v) (cache_of s u v) (sent_of s u v) (pair_at_lem ps n limits r.0 u v hu hv a)).1.0;
        no_pairs = λ i h u.
            let z = (and-eq-true_iff (zero_at s.up i) (zero_at s.down i)).0 (held_if (no_pair n i) (zero_at s.up i && zero_at s.down i) (every_at zeros 256 i w.0 h) (no_pair_of n i u)) in
            (zero_parts s.up i z.0, zero_parts s.down i z.1);
        no_values = value_at n s.values w.1;
      }

  pub sound_holds : Sound b s → sound b s ≡ true
  unfolding sound values
  sound_holds f =
      let ps = s.tree.parents in
      let n = s.tree.count in
      ap₂ ◌&&◌ ((in_rule_exactly ps n).1 f.tree_in_rule)
      (ap₂ ◌&&◌ (le-leb s.accepted limit f.few)
      (ap₂ ◌&&◌ (pair_of ps n limits (λ u v hu hv a. limits_of b _ _ (lease_of s u v) (cache_of s u v) (sent_of s u v) (f.low u v hu hv a) (f.paid u v hu hv a) (f.caches_in u v hu hv a).within))
      (ap₂ ◌&&◌ (two_of ps n inequality (λ r u v hr hu hv a b d. le-leb (lease_of s u v) (lease_of s r u) (f.ordered r u v hr hu hv a b d)))
      (ap₂ ◌&&◌ (every_of zeros 256 (λ i h. if_held (no_pair n i) _ (λ o. let z = f.no_pairs i h (no_pair_is n i o) in ap₂ ◌&&◌ (zero_of s.up i z.0) (zero_of s.down i z.1))))
      (values_of n s.values f.no_values)))))

pub sound_exactly : SoundExactly
sound_exactly b s = (sound_facts b s, sound_holds b s)
