-- What a walk says of one pair, and how far it goes.
use mathlib.Core.Path.{◌≡◌, refl, sym, ap, ap₂, ◌∙◌}
use mathlib.Core.Bool.{Bool, true, false, not, ◌&&◌, true≢false, and-false, and-eq-true_iff}
use mathlib.Core.Logic.{◌≢◌}
use mathlib.Core.List.{List, [], ◌++◌, append-nil}
use Prim.Native.Nat.{ℕ, zero, suc, ◌<◌, ◌≤◌}
use native.Mathlib.Decide.{ℕ_discrete}
use native.Mathlib.Omega.{arith}
use lib.Dec.{eqb}
use borrow.Author.Tests.{eqb-false, eq-eqb, ne_eqb, not-true}
use Rattle.std.proofs.lemmas.Bool.{false_from_ne_true}
use Rattle.tree.specs.Parents.{Grown}
use Rattle.tree.specs.Sides.{adjacent, side, other}
use Rattle.tree.specs.Sizes.{size}
use Rattle.tree.specs.Kept.{when, kept}
use Rattle.tree.specs.inner.Tours.{onward, visit, tour, Closed, OfItsPair}
use Rattle.tree.specs.Promises.{VisitedOnce, CountIsEnough}
use Rattle.tree.proofs.Cases.{either}
use Rattle.tree.proofs.Toward.{adjacent_ne, adjacent_sym, complementary, next, unique, self, not_own, own, nested}
use Rattle.tree.proofs.Sizes.{sizes_add, size_least, size_less}
use Rattle.tree.proofs.Paths.{edge, through}
use Rattle.tree.proofs.Lists.{kept_append, kept_when}
use Rattle.tree.proofs.Turns.{round_same, round_none, round_one, kept_round}

-- what it takes to go on from u to w
pub goes : (ps : List ℕ) (go : ℕ → ℕ → Bool) (u v w : ℕ) → (other ps u v w && go w u) ≡ true → (adjacent ps w u ≡ true) × (v ≢ w) × (go w u ≡ true)
goes ps go u v w t =
    let e = (and-eq-true_iff (other ps u v w) (go w u)).0 t in
    let o = (and-eq-true_iff (adjacent ps w u) (not (eqb v w))).0 e.0 in
    (o.0, eqb-false v w (not-true (eqb v w) o.1), e.1)

-- a round of the neighbours gone to depends on what is said of those alone, and what is kept of it is the round of what is kept
module _ (ps : List ℕ) (n : ℕ) (go : ℕ → ℕ → Bool) (u v : ℕ) (hu : u < n) {M : Type 0} where
  pub onward_same : (F G : ℕ → List M) → ((w : ℕ) → w < n → (other ps u v w && go w u) ≡ true → F w ≡ G w) → onward ps n go u v F ≡ onward ps n go u v G
  onward_same F G h =
      round_same n u hu (λ w. when (other ps u v w && go w u) (F w)) (λ w. when (other ps u v w && go w u) (G w)) (λ w l. one (other ps u v w && go w u) (h w l))
    where
      one : (t : Bool) {s r : List M} → (t ≡ true → s ≡ r) → when t s ≡ when t r
      one true e = e refl
      one false e = refl

  pub onward_kept : (test : M → Bool) (F : ℕ → List M) → kept test (onward ps n go u v F) ≡ onward ps n go u v (λ w. kept test (F w))
  onward_kept test F =
      kept_round n u hu test (λ w. when (other ps u v w && go w u) (F w))
      ∙ round_same n u hu (λ w. kept test (when (other ps u v w && go w u) (F w))) (λ w. when (other ps u v w && go w u) (kept test (F w)))
      (λ w l. kept_when test (other ps u v w && go w u) (F w))

-- the pairs (a,b) that a walk goes to from the step to u from v on: a is on u's side, b is its neighbour towards v, and the test lets it
abbrev region : List ℕ → (ℕ → ℕ → Bool) → ℕ → ℕ → ℕ → ℕ → Bool
region ps go u v a b = side ps u v a && ((side ps b a v && adjacent ps b a) && go a b)

module _ (ps : List ℕ) (n : ℕ) (grown : Grown ps n) (go : ℕ → ℕ → Bool) (closed : Closed ps n go)
    {M : Type 0} (a b : ℕ) (ha : a < n) (hb : b < n) where
  -- one node u of the walk, come from v: the neighbours w gone to, F w what is said of (a,b) there, Z all that there is to say
  module _ (Z : List M) (u v : ℕ) (hu : u < n) (F : ℕ → List M)
      (h : (w : ℕ) → w < n → (other ps u v w && go w u) ≡ true → F w ≡ when (region ps go w u a b) Z) where
    -- a neighbour that does not have a on its side, if gone to, says nothing
    quiet : (w : ℕ) → w < n → ((other ps u v w && go w u) ≡ true → side ps w u a ≡ false) → when (other ps u v w && go w u) (F w) ≡ []
    quiet w l k = by (other ps u v w && go w u) refl
      where
        by : (t : Bool) → (other ps u v w && go w u) ≡ t → when t (F w) ≡ []
        by true e = h w l e ∙ rw (k e)
        by false e = refl

    none_gone : ((w : ℕ) → (other ps u v w && go w u) ≡ true → side ps w u a ≡ false) → onward ps n go u v F ≡ []
    none_gone k = round_none n u hu (λ w. when (other ps u v w && go w u) (F w)) (λ w l. quiet w l (k w))

    -- the one that has it
    gone : (k : ℕ) → k < n → adjacent ps k u ≡ true → side ps k u a ≡ true
        → onward ps n go u v F ≡ when (not (eqb v k) && ((side ps b a u && adjacent ps b a) && go a b)) Z
    gone k hk ak sk =
        round_one n u hu (λ w. when (other ps u v w && go w u) (F w)) k hk (λ w l o. quiet w l (λ t. away w (goes ps go u v w t).0 o))
        ∙ last (not (eqb v k)) refl (go k u) refl
      where
        away : (w : ℕ) → adjacent ps w u ≡ true → w ≢ k → side ps w u a ≡ false
        away w i o = false_from_ne_true (side ps w u a) (λ t. o (unique ps n grown u w k a hu ha i ak t sk))

        last : (q : Bool) → not (eqb v k) ≡ q → (z : Bool) → go k u ≡ z
            → when (other ps u v k && go k u) (F k) ≡ when (q && ((side ps b a u && adjacent ps b a) && go a b)) Z
        last true e true p = rw (ak, e, p) (h k hk (rw (ak, e, p)) ∙ rw sk)
        last true e false p = rw (
          ak,
          e,
          p,
          false_from_ne_true ((side ps b a u && adjacent ps b a) && go a b) (λ j.
              let m = (and-eq-true_iff (side ps b a u && adjacent ps b a) (go a b)).0 j in
              let i = (and-eq-true_iff (side ps b a u) (adjacent ps b a)).0 m.0 in
              true≢false (sym (through ps n grown go closed k u a b hk hu ha hb ak i.1 i.0 sk m.1) ∙ p)),
        )
        last false e z p = rw (ak, e)

  -- the region of (u,v) is that pair and the regions of the pairs gone to from u
  gather : (X Y : List M) (u v : ℕ) → u < n → v < n → adjacent ps v u ≡ true → go u v ≡ true → (F : ℕ → List M)
      → ((w : ℕ) → w < n → (other ps u v w && go w u) ≡ true → F w ≡ when (region ps go w u a b) (X ++ Y))
      → when (eqb a u && eqb b v) X ++ (onward ps n go u v F ++ when (eqb a u && eqb b v) Y) ≡ when (region ps go u v a b) (X ++ Y)
  gather X Y u v hu hv c g F h = either (ℕ_discrete a u)
      (λ e. either (ℕ_discrete b v)
      (λ p. rw (zero_at_lem e, eq-eqb a u e, eq-eqb b v p, e, p, own ps n grown u v hu c, vv, c, g))
      (λ p. rw (
        zero_at_lem e,
        eq-eqb a u e,
        ne_eqb b v p,
        e,
        own ps n grown u v hu c,
        false_from_ne_true (side ps b u v && adjacent ps b u) (λ t.
            let q = (and-eq-true_iff (side ps b u v) (adjacent ps b u)).0 t in
            p (unique ps n grown u b v v hu hv q.1 c q.0 vv)),
      )))
      (λ d. let q = next ps n grown u a hu ha d in
      rw (ne_eqb a u d, append-nil, gone (X ++ Y) u v hu F h q.0 q.1 q.2 q.3) (either (ℕ_discrete v q.0)
      (λ e. rw (eq-eqb v q.0 e, complementary ps u v a (λ o. adjacent_ne ps v u c (sym o)), e, q.3))
      (λ ne. let here = nested ps n grown u q.0 v a hu ha q.2 c (λ o. ne (sym o)) q.3 in
      rw (ne_eqb v q.0 ne, here, across d (λ o. true≢false (sym here ∙ rw o (not_own ps n grown v u hv c'))) (adjacent ps b a) refl))))
    where
      c' : adjacent ps u v ≡ true
      c' = adjacent_sym ps u v ∙ c

      vv : side ps v u v ≡ true
      vv = own ps n grown v u hv c'

      zero_at_lem : a ≡ u → onward ps n go u v F ≡ []
      zero_at_lem e = none_gone (X ++ Y) u v hu F h (λ w t. rw e (not_own ps n grown u w hu (goes ps go u v w t).0))

      across : a ≢ u → a ≢ v → (z : Bool) → adjacent ps b a ≡ z → (side ps b a v && z) ≡ (side ps b a u && z)
      across d o true p = ap (λ s. s && true) (edge ps n grown b a v u hv hu p c o d)
      across d o false p = and-false (side ps b a v) ∙ sym (and-false (side ps b a u))

  module _ (about : ℕ → ℕ → M → Bool) (before after : ℕ → ℕ → List M) (of_before : OfItsPair ps n about before) (of_after : OfItsPair ps n about after) where
    abbrev told : List M → List M
    told = kept (about a b)

    -- what is said of (a,b) on going to w from u
    of_pair : (says : ℕ → ℕ → List M) → OfItsPair ps n about says → (w u : ℕ) → w < n → u < n → adjacent ps u w ≡ true → told (says w u) ≡ when (eqb a w && eqb b u) (says a b)
    of_pair says is w u hw hu c = is a b w u hw hu c ∙ either (ℕ_discrete a w)
        (λ e. either (ℕ_discrete b u) (λ p. rw (eq-eqb a w e, eq-eqb b u p, e, p)) (λ p. rw (ne_eqb b u p, and-false)))
        (λ e. rw (ne_eqb a w e))

    once : (k u v : ℕ) → size ps n u v ≤ k → u < n → v < n → adjacent ps v u ≡ true → go u v ≡ true
        → told (visit ps n go before after k u v) ≡ when (region ps go u v a b) (before a b ++ after a b)
    unfolding visit
    once zero u v l hu hv c g = absurd (omega (arith, size_least ps n grown u v hu c))
    once (suc k) u v l hu hv c g =
        kept_append (about a b) (before u v) (gap ++ after u v)
        ∙ ap₂ ◌++◌ (of_pair before of_before u v hu hv c) (kept_append (about a b) gap (after u v) ∙ ap₂ ◌++◌ (onward_kept ps n go u v hu (about a b) (λ w. visit ps n go before after k w u)) (of_pair after of_after u v hu hv c))
        ∙ gather (before a b) (after a b) u v hu hv c g (λ w. told (visit ps n go before after k w u)) (λ w hw t.
        let e = goes ps go u v w t in
        once k w u (omega (arith, size_less ps n grown u v hu c w hw e.0 e.1)) hw hu (adjacent_sym ps u w ∙ e.0) e.2)
      where
        gap : List M
        gap = onward ps n go u v (λ w. visit ps n go before after k w u)

    from_start : (k x : ℕ) → n ≤ k → x < n → told (tour ps n go before after k x) ≡ when ((side ps b a x && adjacent ps b a) && go a b) (before a b ++ after a b)
    from_start k x enough hx = onward_kept ps n go x x hx (about a b) (λ w. visit ps n go before after k w x) ∙ either (ℕ_discrete a x)
        (λ e. none_gone (before a b ++ after a b) x x hx F at (λ w t. rw e (not_own ps n grown x w hx (goes ps go x x w t).0)) ∙ rw (e, self ps n grown x b hx))
        (λ d. let q = next ps n grown x a hx ha d in
        gone (before a b ++ after a b) x x hx F at q.0 q.1 q.2 q.3 ∙ rw (ne_eqb x q.0 (λ o. adjacent_ne ps q.0 x q.2 (sym o))))
      where
        F : ℕ → List M
        F w = told (visit ps n go before after k w x)

        at : (w : ℕ) → w < n → (other ps x x w && go w x) ≡ true → F w ≡ when (region ps go w x a b) (before a b ++ after a b)
        at w hw t =
            let e = goes ps go x x w t in
            let c = adjacent_sym ps x w ∙ e.0 in
            once k w x (omega (arith, sizes_add ps n grown w x hw hx c)) hw hx c e.2

pub visited_once : VisitedOnce
visited_once ps n grown go closed M about before after of_before of_after a b ha hb = from_start ps n grown go closed a b ha hb about before after of_before of_after

module _ (ps : List ℕ) (n : ℕ) (grown : Grown ps n) {M : Type 0} (go : ℕ → ℕ → Bool) (before after : ℕ → ℕ → List M) where
  -- two falling numbers that are both enough
  same_visit : (k m u v : ℕ) → size ps n u v ≤ k → size ps n u v ≤ m → u < n → adjacent ps v u ≡ true → visit ps n go before after k u v ≡ visit ps n go before after m u v
  unfolding visit
  same_visit zero m u v l i hu c = absurd (omega (arith, size_least ps n grown u v hu c))
  same_visit (suc k) zero u v l i hu c = absurd (omega (arith, size_least ps n grown u v hu c))
  same_visit (suc k) (suc m) u v l i hu c = ap (λ s. before u v ++ (s ++ after u v)) (onward_same ps n go u v hu (λ w. visit ps n go before after k w u) (λ w. visit ps n go before after m w u) (λ w hw t.
      let e = goes ps go u v w t in
      let s = size_less ps n grown u v hu c w hw e.0 e.1 in
      same_visit k m w u (omega arith) (omega arith) hw (adjacent_sym ps u w ∙ e.0)))

pub count_is_enough : CountIsEnough
count_is_enough ps n grown M go before after k x l hx = onward_same ps n go x x hx (λ w. visit ps n go before after k w x) (λ w. visit ps n go before after n w x) (λ w hw t.
    let c = adjacent_sym ps x w ∙ (goes ps go x x w t).0 in
    let s = sizes_add ps n grown w x hw hx c in
    same_visit ps n grown go before after k n w x (omega arith) (omega arith) hw c)
