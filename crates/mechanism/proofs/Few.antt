-- A request says at most 510 messages, of 19,380 bits: 2 messages and 76 bits for each node but x.
use mathlib.Core.Path.{◌≡◌, refl}
use mathlib.Core.List.{List, [], ◌∷◌, ◌++◌}
use Prim.Native.Nat.{ℕ, zero, suc, ◌+◌, ◌*◌, ◌≤◌, ◌<◌}
use native.Mathlib.Omega.{arith}
use lib.IntN.{ℤ}
use lib.ListN.{length, length-append}
use Rattle.tree.specs.Operation.{Op}
use Rattle.messages.specs.Records.{kind_of, width_of}
use Rattle.messages.specs.Writing.{bits_of_all}
use Rattle.messages.specs.declared.Message.{Message}
use Rattle.messages.specs.declared.Message.TheVariants.{Probe, Response, Update, Release}
use Rattle.messages.proofs.Stretches.{bits_append}
use Rattle.requests.specs.declared.Request.TheVariants.{Combine, Write}
use Rattle.session.specs.Holding.{lease_of}
use Rattle.session.specs.Soundness.{Sound}
use Rattle.session.specs.declared.Session.{Session}
use Rattle.mechanism.specs.Views.{view}
use Rattle.mechanism.specs.Requests.{valued, combines, writes}
use Rattle.mechanism.specs.Spreading.{released}
use Rattle.mechanism.specs.Pairwise.{reply_of, tell_of}
use Rattle.mechanism.specs.Promises.{FewMessages}
use Rattle.mechanism.proofs.Asking.{asks, probes, responses}
use Rattle.mechanism.proofs.Telling.{tells, updates, releases}
use Rattle.mechanism.proofs.Walks.{combines_tour, writes_tour}
use Rattle.mechanism.proofs.Weights.{tour_weight}

module _ (op : Op ℤ) (b : ℕ) (s : Session) (i : Sound b s) (x : ℕ) (hx : x < s.tree.count)
    (weight : List Message → ℕ) (none : weight [] ≡ 0) (both : (l r : List Message) → weight (l ++ r) ≡ weight l + weight r) (c : ℕ) where
  combine_weight : ((u w : ℕ) (y : ℤ) → weight (Probe u w ∷ []) + weight (Response w u y ∷ []) ≤ c) → weight (combines op s x).log + c ≤ c * s.tree.count
  combine_weight costs =
      rw (combines_tour op b s i x hx) (tour_weight weight none both s.tree.parents s.tree.count i.tree_in_rule.grown (asks (view s)) probes (responses op (view s)) c
      (λ w u. costs u w (reply_of op s w u)) s.tree.count x hx)

  write_weight : (z : ℤ) → ((u w : ℕ) (y : ℤ) → weight (Update u w y ∷ []) + weight (Release w u ∷ []) ≤ c) → weight (writes op s x z) + c ≤ c * s.tree.count
  write_weight z costs =
      rw (writes_tour op b s i x hx z) (tour_weight weight none both s.tree.parents s.tree.count i.tree_in_rule.grown (tells (view s)) (updates op (view (valued s x z)) x) (releases (view s)) c
      (λ w u. one w u (lease_of s u w)) s.tree.count x hx)
    where
      one : (w u k : ℕ) → weight (Update u w (tell_of op s x z u w) ∷ []) + weight (released k u w) ≤ c
      one w u zero = omega (arith, none, costs u w (tell_of op s x z u w))
      one w u (suc zero) = costs u w (tell_of op s x z u w)
      one w u (suc (suc k)) = omega (arith, none, costs u w (tell_of op s x z u w))

pub few_messages : FewMessages
unfolding bits_of_all width_of kind_of
few_messages op b s i (Combine x) hx = (
  omega (arith, i.tree_in_rule.few, combine_weight op b s i x hx length refl length-append 2 (λ u w y. omega arith)),
  omega (arith, i.tree_in_rule.few, combine_weight op b s i x hx bits_of_all refl bits_append 76 (λ u w y. omega arith)),
)
few_messages op b s i (Write x z) hx = (
  omega (arith, i.tree_in_rule.few, write_weight op b s i x hx length refl length-append 2 z (λ u w y. omega arith)),
  omega (arith, i.tree_in_rule.few, write_weight op b s i x hx bits_of_all refl bits_append 76 z (λ u w y. omega arith)),
)
