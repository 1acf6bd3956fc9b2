-- A tree in rule: the test, entry by entry, and the facts it stands for.
use mathlib.Core.Path.{◌≡◌, refl, sym, ap, ap₂, ◌∙◌}
use mathlib.Core.Bool.{true, false, ◌&&◌, and-false, and-eq-true_iff}
use mathlib.Core.Logic.{◌⊎◌, inl, inr}
use mathlib.Core.List.{List}
use Prim.Native.Nat.{ℕ, ◌+◌, ◌-◌, ◌≤◌, ◌<◌}
use native.Mathlib.Omega.{arith}
use lib.Dec.{eqb, ltb, leb}
use lib.ListN.{length, take, drop}
use Rattle.std.proofs.lemmas.List.{length-drop, length-take-le, get_or-take, get_or-drop}
use borrow.Author.Tests.{lt-ltb, le-ltb, ltb-true, leb-true, le-leb, lt-leb, eqb-true, eq-eqb}
use Rattle.tree.specs.inner.Places.{from}
use Rattle.tree.specs.Every.{every}
use Rattle.tree.specs.Parents.{parent, InRule, entry_in_rule, place_in_rule, in_rule}
use Rattle.tree.specs.Promises.{InRuleExactly}
use Rattle.tree.proofs.Cases.{lt_or_le}
use Rattle.tree.proofs.Every.{every_at, every_of, from_at, from_of_lem, same_test}

-- an entry that is used, and one that is not
pub entry_used : (n i p : ℕ) → 0 < i → i < n → entry_in_rule n i p ≡ ltb p i
unfolding entry_in_rule
entry_used n i p z h = rw (lt-ltb 0 i z, lt-ltb i n h)

pub entry_unused : (n i p : ℕ) → (i ≡ 0) ⊎ (n ≤ i) → entry_in_rule n i p ≡ eqb p 0
unfolding entry_in_rule
entry_unused n i p (inl e) = rw (le-ltb 0 i (omega arith))
entry_unused n i p (inr h) = rw (le-ltb i n h, and-false (ltb 0 i))

-- the count out of bounds, and within
module _ (ps : List ℕ) (n : ℕ) where
  pub none_fails : n < 1 → in_rule ps n ≡ false
  unfolding in_rule
  none_fails h = rw (lt-leb 1 n h)

  pub many_fail : 256 < n → in_rule ps n ≡ false
  unfolding in_rule
  many_fail h = rw (lt-leb n 256 h, and-false (leb 1 n))

  pub within_bounds : 1 ≤ n → n ≤ 256 → in_rule ps n ≡ every (place_in_rule ps n) 256
  unfolding in_rule
  within_bounds a b = rw (le-leb 1 n a, le-leb n 256 b)

pub ruleset by_count = (none_fails, many_fail, within_bounds)

-- the root's entry and the passes over the used and the unused entries
pub passes_say : (ps used unused : List ℕ) (n : ℕ) → 1 ≤ n → n ≤ 256 → length ps ≡ 256 → used ≡ take n ps → unused ≡ drop n ps
    → ((eqb (parent used 0) 0 && every (from 1 (λ i. ltb (parent used i) i)) (length used)) && every (λ i. eqb (parent unused i) 0) (length unused)) ≡ every (place_in_rule ps n) 256
passes_say ps used unused n some few long u v = same_test _ _ forth back
  where
    first : length used ≡ n
    first = ap length u ∙ length-take-le n ps (omega (arith, long))

    last : length unused ≡ 256 - n
    last = ap length v ∙ length-drop n ps ∙ ap (λ k. k - n) long

    used_is : (i : ℕ) → i < n → parent used i ≡ parent ps i
    used_is i h = rw u (get_or-take n ps i 0 h)

    unused_is : (i : ℕ) → n ≤ i → parent unused (i - n) ≡ parent ps i
    unused_is i h = let e : n + (i - n) ≡ i = omega arith in rw v (get_or-drop n ps (i - n) 0 ∙ ap (parent ps) e)

    forth : ((eqb (parent used 0) 0 && every (from 1 (λ i. ltb (parent used i) i)) (length used)) && every (λ i. eqb (parent unused i) 0) (length unused)) ≡ true → every (place_in_rule ps n) 256 ≡ true
    forth t =
        let a = (and-eq-true_iff (eqb (parent used 0) 0 && every (from 1 (λ i. ltb (parent used i) i)) (length used)) (every (λ i. eqb (parent unused i) 0) (length unused))).0 t in
        let b = (and-eq-true_iff (eqb (parent used 0) 0) (every (from 1 (λ i. ltb (parent used i) i)) (length used))).0 a.0 in
        every_of (place_in_rule ps n) 256 (λ i h. lt_or_le i n
        (λ l. lt_or_le 0 i
        (λ z. entry_used n i (parent ps i) z l ∙ ap (λ p. ltb p i) (sym (used_is i l)) ∙ from_at 1 (λ i. ltb (parent used i) i) (length used) i b.1 (omega (arith, first)) z)
        (λ z. let o : i ≡ 0 = omega arith in entry_unused n i (parent ps i) (inl o) ∙ ap (λ p. eqb p 0) (sym (used_is i l) ∙ ap (parent used) o) ∙ b.0))
        (λ l. entry_unused n i (parent ps i) (inr l) ∙ ap (λ p. eqb p 0) (sym (unused_is i l)) ∙ every_at (λ i. eqb (parent unused i) 0) (length unused) (i - n) a.1 (omega (arith, last))))

    back : every (place_in_rule ps n) 256 ≡ true → ((eqb (parent used 0) 0 && every (from 1 (λ i. ltb (parent used i) i)) (length used)) && every (λ i. eqb (parent unused i) 0) (length unused)) ≡ true
    back t = ap₂ ◌&&◌ (ap₂ ◌&&◌
        (ap (λ p. eqb p 0) (used_is 0 (omega arith)) ∙ sym (entry_unused n 0 (parent ps 0) (inl refl)) ∙ every_at (place_in_rule ps n) 256 0 t (omega arith))
        (from_of_lem 1 (λ i. ltb (parent used i) i) (length used) (λ i h z. ap (λ p. ltb p i) (used_is i (omega (arith, first))) ∙ sym (entry_used n i (parent ps i) z (omega (arith, first))) ∙ every_at (place_in_rule ps n) 256 i t (omega (arith, first)))))
        (every_of (λ i. eqb (parent unused i) 0) (length unused) (λ i h.
        let e : n + i - n ≡ i = omega arith in
        ap (λ k. eqb (parent unused k) 0) (sym e) ∙ ap (λ p. eqb p 0) (unused_is (n + i) (omega arith)) ∙ sym (entry_unused n (n + i) (parent ps (n + i)) (inr (omega arith))) ∙ every_at (place_in_rule ps n) 256 (n + i) t (omega (arith, last))))

pub in_rule_exactly : InRuleExactly
unfolding in_rule
in_rule_exactly ps n = (facts, test)
  where
    facts : in_rule ps n ≡ true → InRule ps n
    facts e =
        let a = (and-eq-true_iff (leb 1 n) (leb n 256 && every (place_in_rule ps n) 256)).0 e in
        let b = (and-eq-true_iff (leb n 256) (every (place_in_rule ps n) 256)).0 a.1 in
        let few = leb-true n 256 b.0 in
        record {
          some = leb-true 1 n a.0;
          few = few;
          grown = λ i z h. ltb-true (parent ps i) i (sym (entry_used n i (parent ps i) z h) ∙ every_at (place_in_rule ps n) 256 i b.1 (omega arith));
          unused = λ i h u. eqb-true (parent ps i) 0 (sym (entry_unused n i (parent ps i) u) ∙ every_at (place_in_rule ps n) 256 i b.1 h);
        }

    test : InRule ps n → in_rule ps n ≡ true
    test r = within_bounds ps n r.some r.few ∙ every_of (place_in_rule ps n) 256 each
      where
        not_used : (i : ℕ) → i < 256 → (i ≡ 0) ⊎ (n ≤ i) → place_in_rule ps n i ≡ true
        not_used i h u = entry_unused n i (parent ps i) u ∙ eq-eqb (parent ps i) 0 (r.unused i h u)

        each : (i : ℕ) → i < 256 → place_in_rule ps n i ≡ true
        each i h = lt_or_le 0 i
            (λ z. lt_or_le i n (λ l. entry_used n i (parent ps i) z l ∙ lt-ltb (parent ps i) i (r.grown i z l)) (λ l. not_used i h (inr l)))
            (λ z. not_used i h (inl (omega arith)))
