-- A sound session's counts are far below what 32 bits hold.
use mathlib.Core.Path.{◌≡◌, refl}
use mathlib.Core.Bool.{true}
use mathlib.Core.Logic.{inl, inr}
use mathlib.Core.List.{List}
use Prim.Native.Nat.{ℕ, ◌≤◌, ◌<◌}
use native.Mathlib.Omega.{arith}
use lib.ListN.{get_or, length, get_or-eq_default}
use borrow.Author.Tests.{lt-ltb, le-ltb, eq-eqb}
use Rattle.tree.specs.Parents.{parent}
use Rattle.tree.specs.Sides.{adjacent}
use Rattle.tree.proofs.Cases.{lt_or_le}
use Rattle.tree.proofs.Toward.{adjacent_sym}
use Rattle.session.specs.Holding.{pair_at, sent_of}
use Rattle.session.specs.Soundness.{Sound, Unused}
use Rattle.session.specs.declared.Session.{Session}
use Rattle.mechanism.specs.Requests.{links_of}
use Rattle.aggregate.specs.inner.Afters.{Counts}

parent_beside : (ps : List ℕ) (i : ℕ) → parent ps i < i → adjacent ps (parent ps i) i ≡ true
parent_beside ps i h = rw (lt-ltb (parent ps i) i h) (eq-eqb (parent ps i) (parent ps i) refl)

module _ {b : ℕ} (s : Session) (sound : Sound b s) (up_long : length s.up.messages ≡ 256) (down_long : length s.down.messages ≡ 256) where
  abbrev Few : ℕ → Type 0
  Few i = (get_or s.up.messages i 0 ≤ 2097152) × (get_or s.down.messages i 0 ≤ 2097152)

  of_a_node : (i : ℕ) → 0 < i → i < s.tree.count → Few i
  unfolding pair_at
  of_a_node i z h =
      let p = parent s.tree.parents i in
      let l = sound.tree_in_rule.grown i z h in
      let a = parent_beside s.tree.parents i l in
      let up : sent_of s i p ≡ get_or s.up.messages i 0 = rw (lt-ltb p i l) in
      let down : sent_of s p i ≡ get_or s.down.messages i 0 = rw (le-ltb i p (omega arith)) in (
        omega (arith, up, sound.paid i p h (omega arith) a, sound.few),
        omega (arith, down, sound.paid p i (omega arith) h (rw (adjacent_sym s.tree.parents i p) a), sound.few),
      )

  of_none : (i : ℕ) → (Unused s.up i × Unused s.down i) → Few i
  of_none i u = (omega (arith, u.0.no_messages), omega (arith, u.1.no_messages))

  all_few : (i : ℕ) → Few i
  all_few i =
      lt_or_le i 256
      (λ h. lt_or_le 0 i
      (λ z. lt_or_le i s.tree.count (λ l. of_a_node i z l) (λ l. of_none i (sound.no_pairs i h (inr l))))
      (λ z. of_none i (sound.no_pairs i h (inl (omega arith)))))
      (λ h. (
        omega (arith, get_or-eq_default s.up.messages 0 {n = i} (omega arith)),
        omega (arith, get_or-eq_default s.down.messages 0 {n = i} (omega arith)),
      ))

  pub counts_paid : Counts 2097152 (links_of s)
  counts_paid = record { up_few = λ i. (all_few i).0; down_few = λ i. (all_few i).1 }
