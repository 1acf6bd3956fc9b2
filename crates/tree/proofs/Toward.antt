-- Which neighbour leads where: exactly one to each other node.
use mathlib.Core.Path.{◌≡◌, refl, sym, ap, ap₂, ◌∙◌}
use mathlib.Core.Bool.{true, false, not, ◌&&◌, true≢false, and-true, and-false, not-not, and-eq-true_iff}
use mathlib.Core.Logic.{◌≢◌}
use mathlib.Core.List.{List}
use Prim.Native.Nat.{ℕ, ◌<◌}
use native.Mathlib.Decide.{ℕ_discrete}
use native.Mathlib.Omega.{arith}
use lib.Dec.{eqb}
use borrow.Author.Tests.{eqb-true, lt-ltb, le-ltb, eq-eqb, ne_eqb}
use Rattle.tree.specs.Parents.{parent, Grown}
use Rattle.tree.specs.Sides.{adjacent, side}
use Rattle.tree.specs.Promises.{OneWay, Complementary, Nested, Outward}
use Rattle.tree.proofs.Cases.{either, order}
use Rattle.tree.proofs.Below.{below_self, below_step, below_lt, inherited}

pub adjacent_ne : (ps : List ℕ) (u w : ℕ) → adjacent ps u w ≡ true → u ≢ w
adjacent_ne ps u w a e = absurd (true≢false (sym a ∙ rw (le-ltb u w (omega arith), le-ltb w u (omega arith))))

pub adjacent_sym : (ps : List ℕ) (u w : ℕ) → adjacent ps u w ≡ adjacent ps w u
adjacent_sym ps u w = order u w
    (λ a. rw (lt-ltb u w a, le-ltb w u (omega arith)))
    (λ e. rw e)
    (λ a. rw (lt-ltb w u a, le-ltb u w (omega arith)))

pub complementary : Complementary
complementary ps u v j d = order u v
    (λ a. rw (lt-ltb u v a, le-ltb v u (omega arith)))
    (λ e. absurd (d e))
    (λ a. rw (lt-ltb v u a, le-ltb u v (omega arith)) (sym (not-not _)))

pub one_way : OneWay
one_way ps n grown u j hu = inherited ps n grown Goal step j
  where
    Goal : ℕ → Type 0
    Goal j = j ≢ u → (k : ℕ) × (k < n) × ((w : ℕ) → (side ps w u j && adjacent ps w u) ≡ eqb k w)

    step : (j : ℕ) → j < n → (0 < j → Goal (parent ps j)) → Goal j
    step j h r ne = order j u
        (λ l. let t = grown u (omega arith) hu in (
          parent ps u,
          omega arith,
          λ w. order w u
              (λ a. rw (le-ltb u w (omega arith), below_lt ps n grown u j h l, lt-ltb w u a))
              (λ e. rw (le-ltb w u (omega arith), le-ltb u w (omega arith), and-false, ne_eqb (parent ps u) w (omega arith)))
              (λ a. rw (lt-ltb u w a, below_lt ps n grown w j h (omega arith), ne_eqb (parent ps u) w (omega arith))),
        ))
        (λ e. absurd (ne e))
        (λ l. let z : 0 < j = omega arith in let t = grown j z h in either (ℕ_discrete (parent ps j) u)
        (λ e. (
          j,
          h,
          λ w. order w u
              (λ a. rw (le-ltb u w (omega arith), below_step ps n grown u j z h, ne_eqb j u ne, e, below_self ps u, ne_eqb j w (omega arith)))
              (λ p. rw (le-ltb w u (omega arith), le-ltb u w (omega arith), and-false, ne_eqb j w (omega arith)))
              (λ a. either (ℕ_discrete j w)
              (λ p. rw (lt-ltb u w a, le-ltb w u (omega arith), below_step ps n grown w j z h, eq-eqb j w p, eq-eqb (parent ps w) u (ap (parent ps) (sym p) ∙ e)))
              (λ p. rw (lt-ltb u w a, below_step ps n grown w j z h, ne_eqb j w p, e, below_lt ps n grown w u hu a))),
        ))
        (λ d. let q = r z d in (
          q.0,
          q.1,
          λ w. order w u
              (λ a. rw (le-ltb u w (omega arith), below_step ps n grown u j z h, ne_eqb j u ne) (rw (le-ltb u w (omega arith)) at (q.2 w)))
              (λ p. rw (le-ltb w u (omega arith), le-ltb u w (omega arith), and-false) (rw (le-ltb w u (omega arith), le-ltb u w (omega arith), and-false) at (q.2 w)))
              (λ a. either (ℕ_discrete j w)
              (λ p. let b = ne_eqb (parent ps w) u (λ o. d (ap (parent ps) p ∙ o)) in
              rw (lt-ltb u w a, le-ltb w u (omega arith), b, and-false) (rw (lt-ltb u w a, le-ltb w u (omega arith), b, and-false) at (q.2 w)))
              (λ p. rw (lt-ltb u w a, below_step ps n grown w j z h, ne_eqb j w p) (rw (lt-ltb u w a) at (q.2 w)))),
        )))

module _ (ps : List ℕ) (n : ℕ) (grown : Grown ps n) where
  -- no neighbour's side has u itself,
  pub self : (u w : ℕ) → u < n → (side ps w u u && adjacent ps w u) ≡ false
  self u w h = order w u
      (λ a. rw (le-ltb u w (omega arith), below_self ps u))
      (λ p. rw (le-ltb w u (omega arith), le-ltb u w (omega arith), and-false))
      (λ a. rw (lt-ltb u w a, below_lt ps n grown w u h a))

  pub not_own : (u w : ℕ) → u < n → adjacent ps w u ≡ true → side ps w u u ≡ false
  not_own u w h a = cc (self u w h, and-true (side ps w u u), a)

  pub own : (u v : ℕ) → u < n → adjacent ps v u ≡ true → side ps u v u ≡ true
  own u v h b = cc (complementary ps u v u (λ o. adjacent_ne ps v u b (sym o)), not_own u v h b)

  -- one has j,
  pub next : (u j : ℕ) → u < n → j < n → j ≢ u → (k : ℕ) × (k < n) × (adjacent ps k u ≡ true) × (side ps k u j ≡ true)
  next u j hu h d =
      let q = one_way ps n grown u j hu h d in
      let t = (and-eq-true_iff (side ps q.0 u j) (adjacent ps q.0 u)).0 (q.2 q.0 ∙ eq-eqb q.0 q.0 refl) in
      (q.0, q.1, t.1, t.0)

pub nested : Nested
nested ps n grown u r v j hu h a b ne s = either (ℕ_discrete j u)
    (λ e. absurd (true≢false (sym (ap₂ ◌&&◌ (rw e at s) a) ∙ self ps n grown u r hu)))
    (λ d. let q = one_way ps n grown u j hu h d in
    let e = eqb-true q.0 r (sym (q.2 r) ∙ ap₂ ◌&&◌ s a) in
    cc (complementary ps u v j (λ o. adjacent_ne ps v u b (sym o)), and-true (side ps v u j), b, q.2 v, ne_eqb q.0 v (omega arith)))

pub outward : Outward
outward ps n grown u r v x hu hx a b ne p = nested ps n grown u v r x hu hx b a (λ o. ne (sym o)) p

module _ (ps : List ℕ) (n : ℕ) (grown : Grown ps n) where
  -- and no other.
  pub unique : (u r v j : ℕ) → u < n → j < n → adjacent ps r u ≡ true → adjacent ps v u ≡ true → side ps r u j ≡ true → side ps v u j ≡ true → r ≡ v
  unique u r v j hu h a b s t = either (ℕ_discrete r v) (λ e. e)
      (λ d. absurd (true≢false (sym (nested ps n grown u r v j hu h a b d s) ∙ complementary ps u v j (λ o. adjacent_ne ps v u b (sym o)) ∙ ap not t)))
