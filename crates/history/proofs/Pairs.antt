-- Sums over all ordered pairs of neighbours.
use mathlib.Core.Path.{◌≡◌, refl, sym, ap₂, ◌∙◌}
use mathlib.Core.Bool.{Bool, true, false, ◌&&◌, and-false}
use mathlib.Core.List.{List, [], ◌∷◌, ◌++◌}
use Prim.Native.Nat.{ℕ, ◌+◌, ◌*◌, ◌≤◌, ◌<◌}
use native.Mathlib.Omega.{arith}
use lib.Dec.{eqb}
use borrow.Author.Tests.{eq-eqb, ne_eqb}
use Rattle.tree.specs.Operation.{fold, pick, aggregate, plus}
use Rattle.tree.specs.Sides.{adjacent}
use Rattle.tree.specs.Kept.{keep_if, kept}
use Rattle.tree.specs.declared.Tree.{Tree}
use Rattle.tree.proofs.Folds.{related, same, split, zeros, only}
use Rattle.messages.specs.declared.Message.{Message}
use Rattle.session.specs.declared.Session.{Session}
use Rattle.mechanism.specs.Applying.{from_of, to_of}
use Rattle.mechanism.specs.Pairwise.{about}
use Rattle.mechanism.proofs.Owned.{Owned}
use Rattle.history.specs.History.{all_pairs}

-- f of the pairs of u and each of its neighbours, added up
abbrev around : Tree → (ℕ → ℕ → ℕ) → ℕ → ℕ
around t f u = aggregate plus (f u) (λ v. adjacent t.parents v u) t.count

-- what holds of each pair's terms, and of 0, and goes through sums, holds of the sums over all pairs
module _ (R : ℕ → ℕ → Type 0) (nothing : R 0 0) (joins : (a b c d : ℕ) → R a c → R b d → R (a + b) (c + d)) where
  pairs_related : (t : Tree) (f g : ℕ → ℕ → ℕ) → ((u v : ℕ) → u < t.count → v < t.count → adjacent t.parents v u ≡ true → R (f u v) (g u v))
      → R (all_pairs t f) (all_pairs t g)
  pairs_related t f g h =
      sums (around t f) (around t g) t.count (λ u hu.
      sums (λ v. pick plus (adjacent t.parents v u) (f u v)) (λ v. pick plus (adjacent t.parents v u) (g u v)) t.count (λ v hv.
      one (adjacent t.parents v u) (f u v) (g u v) (h u v hu hv)))
    where
      sums : (f g : ℕ → ℕ) (n : ℕ) → ((j : ℕ) → j < n → R (f j) (g j)) → R (fold plus f n) (fold plus g n)
      sums = related plus plus R nothing joins

      one : (b : Bool) (x y : ℕ) → (b ≡ true → R x y) → R (pick plus b x) (pick plus b y)
      one true x y r = r refl
      one false x y r = nothing

pub pairs_same : (t : Tree) (f g : ℕ → ℕ → ℕ) → ((u v : ℕ) → u < t.count → v < t.count → adjacent t.parents v u ≡ true → f u v ≡ g u v) → all_pairs t f ≡ all_pairs t g
pairs_same = pairs_related (λ a b. a ≡ b) refl (λ a b c d h k. omega arith)

pub pairs_most : (t : Tree) (f g : ℕ → ℕ → ℕ) → ((u v : ℕ) → u < t.count → v < t.count → adjacent t.parents v u ≡ true → 2 * f u v ≤ 5 * g u v) → 2 * all_pairs t f ≤ 5 * all_pairs t g
pairs_most = pairs_related (λ a b. 2 * a ≤ 5 * b) (omega arith) (λ a b c d h k. omega arith)

-- the sum of two sums
pub pairs_add : (t : Tree) (f g : ℕ → ℕ → ℕ) → all_pairs t (λ u v. f u v + g u v) ≡ all_pairs t f + all_pairs t g
pairs_add t f g = same plus (around t (λ u v. f u v + g u v)) (λ u. around t f u + around t g u) t.count both ∙ split plus (around t f) (around t g) t.count
  where
    term : (ℕ → ℕ → ℕ) → ℕ → ℕ → ℕ
    term f u v = pick plus (adjacent t.parents v u) (f u v)

    one : (b : Bool) (x y : ℕ) → pick plus b (x + y) ≡ pick plus b x + pick plus b y
    one true x y = refl
    one false x y = refl

    both : (u : ℕ) → u < t.count → around t (λ u v. f u v + g u v) u ≡ around t f u + around t g u
    both u h =
        same plus (term (λ u v. f u v + g u v) u) (λ v. term f u v + term g u v) t.count (λ v i. one (adjacent t.parents v u) (f u v) (g u v))
        ∙ split plus (term f u) (term g u) t.count

-- the sum of one term
pairs_one : (t : Tree) (x y : ℕ) → x < t.count → y < t.count → adjacent t.parents y x ≡ true → (k : ℕ) → all_pairs t (λ u v. pick plus (eqb u x && eqb v y) k) ≡ k
pairs_one t x y hx hy a k = omega (
  arith,
  only plus (around t f) t.count x hx (λ u h d. zeros plus (term u) t.count (λ v i. rw (ne_eqb u x d) (nothing (adjacent t.parents v u)))),
  only plus (term x) t.count y hy (λ v h d. rw (ne_eqb v y d, and-false) (nothing (adjacent t.parents v x))),
  here,
)
  where
    f : ℕ → ℕ → ℕ
    f u v = pick plus (eqb u x && eqb v y) k

    term : ℕ → ℕ → ℕ
    term u v = pick plus (adjacent t.parents v u) (f u v)

    nothing : (b : Bool) → pick plus b 0 ≡ 0
    nothing true = refl
    nothing false = refl

    here : term x y ≡ k
    here = rw (a, eq-eqb x x refl, eq-eqb y y refl)

-- a weight of lists that adds up where lists are joined
module _ (weight : List Message → ℕ) (none : weight [] ≡ 0) (both : (l r : List Message) → weight (l ++ r) ≡ weight l + weight r) where
  -- what is kept of one more message
  one_more : (b : Bool) (m : Message) (l : List Message) → weight (keep_if b m l) ≡ pick plus b (weight (m ∷ [])) + weight l
  one_more true m l = both (m ∷ []) l
  one_more false m l = omega arith

  -- each message is kept for exactly one pair
  pub pairs_weigh : (s : Session) (ms : List Message) → Owned s ms → all_pairs s.tree (λ u v. weight (kept (about u v) ms)) ≡ weight ms
  unfolding kept
  pairs_weigh s [] h = pairs_related (λ a b. a ≡ 0) refl (λ a b c d h k. omega arith) s.tree (λ u v. weight []) (λ u v. 0) (λ u v hu hv a. none) ∙ sym none
  pairs_weigh s (m ∷ ms) (p, h) =
      pairs_same s.tree (λ u v. weight (kept (about u v) (m ∷ ms))) (λ u v. pick plus (about u v m) (weight (m ∷ [])) + weight (kept (about u v) ms))
      (λ u v hu hv a. one_more (about u v m) m (kept (about u v) ms))
      ∙ pairs_add s.tree (λ u v. pick plus (about u v m) (weight (m ∷ []))) (λ u v. weight (kept (about u v) ms))
      ∙ ap₂ ◌+◌ (pairs_one s.tree (from_of m) (to_of m) p.near p.far p.edge (weight (m ∷ []))) (pairs_weigh s ms h)
      ∙ sym (both (m ∷ []) ms)
