-- The passes over all entries and all values, and what they say of each.
use mathlib.Core.Path.{◌≡◌, ap₂}
use mathlib.Core.Bool.{Bool, true, ◌&&◌, and-eq-true_iff}
use mathlib.Core.Logic.{◌⊎◌}
use mathlib.Core.List.{List}
use Prim.Native.Nat.{ℕ, ◌≤◌, ◌<◌}
use native.Mathlib.Omega.{arith}
use lib.Dec.{eqb, leb}
use lib.IntN.{ℤ, pos}
use lib.ListN.{get_or}
use borrow.Author.Tests.{leb-true, le-leb, eqb-true, eq-eqb}
use Rattle.tree.specs.Ranges.{in_range}
use Rattle.tree.proofs.Every.{from_at, from_of_lem, used_at, unused_at, places_of}
use Rattle.session.specs.Soundness.{Unused, in_limits, zero_at}
use Rattle.session.specs.inner.Passes.{numbers, caches, values}
use Rattle.session.specs.declared.Pairs.{Pairs}
use Rattle.session.proofs.Limits.{only_zero, zero_in, limits_parts, limits_of}

-- ---- an entry that is zero

pub zero_parts : (p : Pairs) (i : ℕ) → zero_at p i ≡ true → Unused p i
zero_parts p i e =
    let q = limits_parts 0 0 0 (get_or p.lease i 0) (get_or p.cache i (pos 0)) (get_or p.messages i 0) e in
    record { no_lease = omega arith; no_cache = only_zero (get_or p.cache i (pos 0)) q.1.1; no_messages = omega arith }

pub zero_of : (p : Pairs) (i : ℕ) → Unused p i → zero_at p i ≡ true
zero_of p i u = limits_of 0 0 0 (get_or p.lease i 0) (get_or p.cache i (pos 0)) (get_or p.messages i 0) (omega (arith, u.no_lease)) (omega (arith, u.no_messages)) (zero_in (get_or p.cache i (pos 0)) u.no_cache)

-- ---- all entries of a direction, k the nodes on the near side of each

module _ (n twice : ℕ) (k : ℕ → ℕ) (p : Pairs) where
  abbrev entries : Bool
  entries = (numbers n 2 p.lease && numbers n twice p.messages) && caches n k p.cache

  abbrev used_of : ℕ → Bool
  used_of i = in_limits 2 (k i) twice (get_or p.lease i 0) (get_or p.cache i (pos 0)) (get_or p.messages i 0)

  abbrev most : ℕ → List ℕ → ℕ → Bool
  most m l i = leb (get_or l i 0) m

  abbrev none : List ℕ → ℕ → Bool
  none l i = eqb (get_or l i 0) 0

  abbrev near : (ℕ → ℕ) → ℕ → Bool
  near k i = in_range (k i) (get_or p.cache i (pos 0))

  apart : entries ≡ true → ((numbers n 2 p.lease ≡ true) × (numbers n twice p.messages ≡ true)) × (caches n k p.cache ≡ true)
  apart e =
      let a = (and-eq-true_iff (numbers n 2 p.lease && numbers n twice p.messages) (caches n k p.cache)).0 e in
      ((and-eq-true_iff (numbers n 2 p.lease) (numbers n twice p.messages)).0 a.0, a.1)

  pub entry_used : entries ≡ true → (i : ℕ) → 0 < i → i < n → used_of i ≡ true
  entry_used e i z h =
      limits_of 2 (k i) twice _ _ _
      (leb-true _ _ (used_at n (most 2 p.lease) (none p.lease) (apart e).0.0 i z h))
      (leb-true _ _ (used_at n (most twice p.messages) (none p.messages) (apart e).0.1 i z h))
      (used_at n (near k) (near (λ i. 0)) (apart e).1 i z h)

  pub entry_unused : entries ≡ true → (i : ℕ) → i < 256 → (i ≡ 0) ⊎ (n ≤ i) → Unused p i
  entry_unused e i h u =
      zero_parts p i (limits_of 0 0 0 _ _ _
      (omega (arith, eqb-true (get_or p.lease i 0) 0 (unused_at n (most 2 p.lease) (none p.lease) (apart e).0.0 i h u)))
      (omega (arith, eqb-true (get_or p.messages i 0) 0 (unused_at n (most twice p.messages) (none p.messages) (apart e).0.1 i h u)))
      (unused_at n (near k) (near (λ i. 0)) (apart e).1 i h u))

  pub entries_of : ((i : ℕ) → 0 < i → i < n → used_of i ≡ true) → ((i : ℕ) → i < 256 → (i ≡ 0) ⊎ (n ≤ i) → Unused p i) → entries ≡ true
  entries_of f g =
      ap₂ ◌&&◌
      (ap₂ ◌&&◌
      (places_of n (most 2 p.lease) (none p.lease) (λ i z h. le-leb _ _ (used i z h).0) (λ i h u. eq-eqb _ 0 (g i h u).no_lease))
      (places_of n (most twice p.messages) (none p.messages) (λ i z h. le-leb _ _ (used i z h).1.0) (λ i h u. eq-eqb _ 0 (g i h u).no_messages)))
      (places_of n (near k) (near (λ i. 0)) (λ i z h. (used i z h).1.1) (λ i h u. zero_in (get_or p.cache i (pos 0)) (g i h u).no_cache))
    where
      used : (i : ℕ) → 0 < i → i < n → (get_or p.lease i 0 ≤ 2) × ((get_or p.messages i 0 ≤ twice) × (near k i ≡ true))
      used i z h = limits_parts 2 (k i) twice _ _ _ (f i z h)

-- ---- all values of nodes that are not there

module _ (n : ℕ) (vs : List ℤ) where
  abbrev no_value : ℕ → Bool
  no_value i = in_range 0 (get_or vs i (pos 0))

  pub value_at : values n vs ≡ true → (i : ℕ) → i < 256 → n ≤ i → get_or vs i (pos 0) ≡ pos 0
  unfolding values
  value_at e i h g = only_zero (get_or vs i (pos 0)) (from_at n no_value 256 i e h g)

  pub values_of : ((i : ℕ) → i < 256 → n ≤ i → get_or vs i (pos 0) ≡ pos 0) → values n vs ≡ true
  unfolding values
  values_of f = from_of_lem n no_value 256 (λ i h g. zero_in (get_or vs i (pos 0)) (f i h g))
