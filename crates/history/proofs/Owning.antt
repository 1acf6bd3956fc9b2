-- One ordered pair through requests one after the other: its number and its messages are those of the rule's automaton, over the pair's own list.
use mathlib.Core.Path.{◌≡◌, refl, sym, ap, ◌∙◌}
use mathlib.Core.Bool.{Bool, true, false}
use mathlib.Core.List.{List, [], ◌∷◌, ◌++◌}
use Prim.Native.Nat.{ℕ, ◌+◌}
use native.Mathlib.Omega.{arith}
use lib.IntN.{ℤ}
use lib.ListN.{length, length-append}
use Rattle.tree.specs.Operation.{Op}
use Rattle.tree.specs.Sides.{side}
use Rattle.tree.specs.Kept.{when, kept}
use Rattle.tree.proofs.Lists.{kept_append}
use Rattle.rule.specs.Pair.{combine, write, belongs, own, number_after, messages}
use Rattle.rule.specs.Pair as pair
use Rattle.messages.specs.declared.Message.{Message}
use Rattle.requests.specs.declared.Request.{Request}
use Rattle.session.specs.Holding.{lease_of, sent_of}
use Rattle.session.specs.declared.Session.{Session}
use Rattle.requests.specs.Lists.{node_of}
use Rattle.mechanism.specs.Requests.{kind_of, says, after}
use Rattle.mechanism.specs.Pairwise.{about, moves, pays, speaks, told_of, exchange, Pair, Ranging}
use Rattle.mechanism.proofs.Says.{lemma_4_1}
use Rattle.mechanism.proofs.Payments.{counted}
use Rattle.history.specs.History.{own_of}
use Rattle.history.proofs.Succession.{Trusted, after_all, spoken_by, AllInOrder}
use Rattle.history.proofs.Steps.{tree_after, pair_after, trusted_after, lease_after, sent_after}

-- a request that is or is not of the pair's own list
number_belongs : (b k : ℕ) (r : pair.Request) (near : Bool) (l : List pair.Request) → number_after b k (belongs r near l) ≡ number_after b (moves b r near k) l
unfolding number_after belongs moves
number_belongs b k combine true l = refl
number_belongs b k combine false l = refl
number_belongs b k write true l = refl
number_belongs b k write false l = refl

messages_belongs : (b k : ℕ) (r : pair.Request) (near : Bool) (l : List pair.Request) → messages b k (belongs r near l) ≡ pays r near k + messages b (moves b r near k) l
unfolding messages belongs moves pays
messages_belongs b k combine true l = omega arith
messages_belongs b k combine false l = refl
messages_belongs b k write true l = refl
messages_belongs b k write false l = omega arith

module _ (op : Op ℤ) (b : ℕ) (ranging : Ranging op) (u v : ℕ) where
  pub number_all : (s : Session) (l : List Request) → Trusted op b s → AllInOrder op b s l → Pair s u v → lease_of (after_all op b s l) u v ≡ number_after b (lease_of s u v) (own_of s.tree u v l)
  unfolding after_all own number_after
  number_all s [] f h p = refl
  number_all s (r ∷ l) f (i, h) p =
      number_all (after op b s r) l (trusted_after op b s r f i ranging) h (pair_after op b s r u v p)
      ∙ rw (tree_after op b s r, lease_after op b s r f i u v p) (sym (number_belongs b (lease_of s u v) (kind_of r) (side s.tree.parents u v (node_of r)) (own_of s.tree u v l)))

  pub sent_all : (s : Session) (l : List Request) → Trusted op b s → AllInOrder op b s l → Pair s u v
      → sent_of (after_all op b s l) u v ≡ sent_of s u v + messages b (lease_of s u v) (own_of s.tree u v l)
  unfolding after_all own messages
  sent_all s [] f h p = omega arith
  sent_all s (r ∷ l) f (i, h) p =
      let near = side s.tree.parents u v (node_of r) in
      let m = own_of s.tree u v l in
      let rest : sent_of (after_all op b (after op b s r) l) u v ≡ sent_of s u v + pays (kind_of r) near (lease_of s u v) + messages b (moves b (kind_of r) near (lease_of s u v)) m
      = sent_all (after op b s r) l (trusted_after op b s r f i ranging) h (pair_after op b s r u v p) ∙ rw (tree_after op b s r, lease_after op b s r f i u v p, sent_after op b s r f i u v p) in
      omega (arith, rest, messages_belongs b (lease_of s u v) (kind_of r) near m)

  -- a weight of messages that adds up where lists are joined, and what it comes to over the pair's own list
  module _ (weight : List Message → ℕ) (none : weight [] ≡ 0) (both : (l m : List Message) → weight (l ++ m) ≡ weight l + weight m)
      (owed : ℕ → List pair.Request → ℕ) (nothing : (k : ℕ) → owed k [] ≡ 0)
      (more : (k : ℕ) (r : pair.Request) (near : Bool) (y : ℤ) (l : List pair.Request) → owed k (belongs r near l) ≡ weight (when (speaks r near k) (exchange r k u v y)) + owed (moves b r near k) l) where
    pub weight_all : (s : Session) (l : List Request) → Trusted op b s → AllInOrder op b s l → Pair s u v → weight (kept (about u v) (spoken_by op b s l)) ≡ owed (lease_of s u v) (own_of s.tree u v l)
    unfolding spoken_by own kept
    weight_all s [] f h p = none ∙ sym (nothing (lease_of s u v))
    weight_all s (r ∷ l) f (i, h) p =
        let near = side s.tree.parents u v (node_of r) in
        let m = own_of s.tree u v l in
        let said = (says op s r).log in
        let later = spoken_by op b (after op b s r) l in
        let rest : weight (kept (about u v) later) ≡ owed (moves b (kind_of r) near (lease_of s u v)) m
        = weight_all (after op b s r) l (trusted_after op b s r f i ranging) h (pair_after op b s r u v p) ∙ rw (tree_after op b s r, lease_after op b s r f i u v p) in
        rw (kept_append (about u v) said later) (omega (
          arith,
          both (kept (about u v) said) (kept (about u v) later),
          ap weight (lemma_4_1 op b s f.holds r i.inside u v p),
          rest,
          more (lease_of s u v) (kind_of r) near (told_of op s r u v) m,
        ))

  -- as many messages are said about the pair
  pub spoken_all : (s : Session) (l : List Request) → Trusted op b s → AllInOrder op b s l → Pair s u v
      → length (kept (about u v) (spoken_by op b s l)) ≡ messages b (lease_of s u v) (own_of s.tree u v l)
  unfolding messages
  spoken_all = weight_all length refl length-append (messages b) (λ k. refl) (λ k r near y l. omega (arith, messages_belongs b k r near l, counted r near k u v y))
