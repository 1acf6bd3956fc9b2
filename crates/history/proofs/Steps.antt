-- One request more: the session stays one to be trusted, its tree and its pairs stay, and its values, numbers and counts move.
use mathlib.Core.Path.{◌≡◌, refl, sym}
use mathlib.Core.List.{List, [], ◌∷◌}
use Prim.Native.Nat.{ℕ, ◌+◌}
use native.Mathlib.Decide.{ℕ_discrete}
use native.Mathlib.Omega.{arith}
use lib.IntN.{ℤ, pos}
use lib.Seq.{get_or-set_same}
use borrow.Author.Tests.{eq-eqb, ne_eqb}
use Rattle.tree.specs.Operation.{Op}
use Rattle.tree.specs.Sides.{side}
use Rattle.tree.proofs.Cases.{either}
use Rattle.messages.specs.declared.Message.{Message}
use Rattle.requests.specs.declared.Request.{Request}
use Rattle.requests.specs.declared.Request.TheVariants.{Combine, Write}
use Rattle.session.specs.Holding.{value_of, lease_of, sent_of}
use Rattle.session.specs.declared.Session.{Session}
use Rattle.requests.specs.Lists.{node_of}
use Rattle.mechanism.specs.Requests.{kind_of, after_combine, after_write, after}
use Rattle.mechanism.specs.Pairwise.{moves, pays, Pair, Ranging}
use Rattle.mechanism.proofs.Owned.{Owned}
use Rattle.mechanism.proofs.Held.{lease_held, sent_held}
use Rattle.mechanism.proofs.After.{cell_after}
use Rattle.mechanism.proofs.Valued.{valued_off}
use Rattle.mechanism.proofs.Keeping.{stays_sound}
use Rattle.mechanism.proofs.KeepingRight.{stays_right}
use Rattle.history.specs.History.{held_after}
use Rattle.history.proofs.Succession.{InOrder, Trusted}

module _ (op : Op ℤ) (b : ℕ) where
  pub tree_after : (s : Session) (r : Request) → (after op b s r).tree ≡ s.tree
  unfolding after_combine after_write
  tree_after s (Combine x) = refl
  tree_after s (Write x z) = refl

  pub accepted_after : (s : Session) (r : Request) → (after op b s r).accepted ≡ s.accepted + 1
  unfolding after_combine after_write
  accepted_after s (Combine x) = refl
  accepted_after s (Write x z) = refl

  pub pair_after : (s : Session) (r : Request) (u v : ℕ) → Pair s u v → Pair (after op b s r) u v
  pair_after s r u v p = record { near = rw (tree_after s r) p.near; far = rw (tree_after s r) p.far; edge = rw (tree_after s r) p.edge }

  pub owned_before : (s : Session) (r : Request) (ms : List Message) → Owned (after op b s r) ms → Owned s ms
  owned_before s r [] h = tt
  owned_before s r (m ∷ ms) (p, h) = (record { near = rw (tree_after s r) at p.near; far = rw (tree_after s r) at p.far; edge = rw (tree_after s r) at p.edge }, owned_before s r ms h)

  module _ (s : Session) (r : Request) (trusted : Trusted op b s) (i : InOrder op s r) where
    pub trusted_after : Ranging op → Trusted op b (after op b s r)
    trusted_after ranging =
        let k = stays_sound op b ranging s trusted.typed trusted.holds i.free r i.small i.inside in
        let l = stays_right op b s trusted.typed trusted.holds trusted.plain trusted.right r i.plainly i.inside in
        record { typed = k.0; holds = k.1; plain = l.0; right = l.1 }

    module _ (u v : ℕ) (p : Pair s u v) where
      pub lease_after : lease_of (after op b s r) u v ≡ moves b (kind_of r) (side s.tree.parents u v (node_of r)) (lease_of s u v)
      lease_after = lease_held (after op b s r) u v (cell_after op b s trusted.typed trusted.holds r i.inside u v p)

      pub sent_after : sent_of (after op b s r) u v ≡ sent_of s u v + pays (kind_of r) (side s.tree.parents u v (node_of r)) (lease_of s u v)
      sent_after = sent_held (after op b s r) u v (cell_after op b s trusted.typed trusted.holds r i.inside u v p)

  pub value_after : (s : Session) (r : Request) → Trusted op b s → InOrder op s r → (u : ℕ) → value_of (after op b s r) u ≡ held_after u (value_of s u) r
  unfolding after_combine after_write
  value_after s (Combine x) trusted i u = refl
  value_after s (Write x z) trusted i u = either (ℕ_discrete u x)
      (λ e. rw (e, eq-eqb x x refl) (get_or-set_same s.values x z (pos 0) (omega (arith, trusted.typed.values_long, trusted.holds.tree_in_rule.few, i.inside))))
      (λ d. rw (ne_eqb x u (λ e. d (sym e))) (valued_off s x z u d))
