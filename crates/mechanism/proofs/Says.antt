-- Lemma 4.1 of the paper: what a request says of one pair.
use mathlib.Core.Path.{◌≡◌, refl, sym, ap, ◌∙◌}
use mathlib.Core.Bool.{Bool, true, false, and-true, and_comm}
use mathlib.Core.List.{[], ◌∷◌}
use Prim.Native.Nat.{ℕ, zero, suc}
use native.Mathlib.Nat.{le_refl}
use native.Mathlib.Omega.{arith}
use lib.Dec.{eqb}
use borrow.Author.Tests.{eqb-true, eqb-false, eq-eqb, ne_eqb, not-true}
use Rattle.tree.specs.Kept.{when, keep_if, kept}
use Rattle.tree.specs.inner.Tours.{Closed}
use Rattle.tree.proofs.Toward.{adjacent_ne, adjacent_sym, complementary}
use Rattle.tree.proofs.Tours.{visited_once}
use Rattle.messages.specs.declared.Message.{Message}
use Rattle.messages.specs.declared.Message.TheVariants.{Probe, Response, Update, Release}
use Rattle.requests.specs.declared.Request.TheVariants.{Combine, Write}
use Rattle.session.specs.Holding.{lease_of}
use Rattle.session.specs.Soundness.{Sound}
use Rattle.session.specs.declared.Session.{Session}
use Rattle.mechanism.specs.Views.{view}
use Rattle.mechanism.specs.Requests.{valued}
use Rattle.mechanism.specs.Spreading.{released}
use Rattle.mechanism.specs.Pairwise.{about, reply_of, tell_of}
use Rattle.mechanism.specs.Promises.{Lemma4_1}
use Rattle.mechanism.proofs.Asking.{asks, probes, responses}
use Rattle.mechanism.proofs.Telling.{tells, updates, releases}
use Rattle.mechanism.proofs.Walks.{combines_tour, writes_tour}

-- what is kept of one message, and of the release that may follow an update
kept_one : (test : Message → Bool) (m : Message) → kept test (m ∷ []) ≡ when (test m) (m ∷ [])
unfolding kept
kept_one test m = go (test m)
  where
    go : (b : Bool) → keep_if b m [] ≡ when b (m ∷ [])
    go true = refl
    go false = refl

kept_release : (test : Message → Bool) (k u v : ℕ) → kept test (released k u v) ≡ when (test (Release v u)) (released k u v)
unfolding kept
kept_release test k u v = go k (test (Release v u)) refl
  where
    go : (k : ℕ) (b : Bool) → test (Release v u) ≡ b → kept test (released k u v) ≡ when b (released k u v)
    go zero true e = refl
    go zero false e = refl
    go (suc zero) b e = kept_one test (Release v u) ∙ rw e
    go (suc (suc k)) true e = refl
    go (suc (suc k)) false e = refl

-- the inequality closes both walks outward
module _ (b : ℕ) (s : Session) (i : Sound b s) where
  asks_closed : Closed s.tree.parents s.tree.count (asks (view s))
  asks_closed r u v hr hu hv a c d g =
      let e = eqb-true (lease_of s r u) 0 g in
      eq-eqb (lease_of s u v) 0 (omega (arith, i.ordered r u v hr hu hv a c d))

  tells_closed : Closed s.tree.parents s.tree.count (tells (view s))
  tells_closed r u v hr hu hv a c d g =
      let e = eqb-false (lease_of s u r) 0 (not-true (eqb (lease_of s u r) 0) g) in
      rw (ne_eqb (lease_of s v u) 0 (λ o. e (omega (arith, i.ordered v u r hv hu hr c a (λ p. d (sym p))))))

-- an update goes the way of the walk, so that (u,v) is owned by what is said on going to v from u
pub lemma_4_1 : Lemma4_1
lemma_4_1 op b s i (Combine x) hx u v p =
    ap (kept (about u v)) (combines_tour op b s i x hx)
    ∙ visited_once s.tree.parents s.tree.count i.tree_in_rule.grown (asks (view s)) (asks_closed b s i) Message about probes (responses op (view s))
    (λ a b w u hw hu e. kept_one (about a b) (Probe u w))
    (λ a b w u hw hu e. kept_one (about a b) (Response w u (reply_of op s w u)))
    u v p.near p.far s.tree.count x (le_refl s.tree.count) hx
    ∙ rw (p.edge, and-true, complementary s.tree.parents v u x (adjacent_ne s.tree.parents v u p.edge))
lemma_4_1 op b s i (Write x z) hx u v p =
    ap (kept (about u v)) (writes_tour op b s i x hx z)
    ∙ visited_once s.tree.parents s.tree.count i.tree_in_rule.grown (tells (view s)) (tells_closed b s i) Message (λ a b. about b a) (updates op (view (valued s x z)) x) (releases (view s))
    (λ a b w u hw hu e. kept_one (about b a) (Update u w (tell_of op s x z u w)) ∙ ap (λ t. when t (Update u w (tell_of op s x z u w) ∷ [])) (and_comm (eqb b u) (eqb a w)))
    (λ a b w u hw hu e. kept_release (about b a) (lease_of s u w) u w ∙ ap (λ t. when t (released (lease_of s u w) u w)) (and_comm (eqb b u) (eqb a w)))
    v u p.far p.near s.tree.count x (le_refl s.tree.count) hx
    ∙ rw (adjacent_sym s.tree.parents u v ∙ p.edge, and-true)
