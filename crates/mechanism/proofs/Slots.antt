-- Which pair has which entry: of pairs of neighbours only equal ones share one, and none has an entry that is not used.
use mathlib.Core.Path.{◌≡◌, refl, sym, ap, ◌∙◌}
use mathlib.Core.Bool.{Bool, true, false, not, cond, ◌&&◌, and-false}
use mathlib.Core.Logic.{◌≢◌, ◌⊎◌, inl, inr}
use mathlib.Core.List.{List, [], ◌∷◌}
use Prim.Native.Nat.{ℕ, ◌<◌, ◌≤◌}
use native.Mathlib.Decide.{ℕ_discrete}
use native.Mathlib.Omega.{arith}
use lib.Dec.{eqb, ltb}
use borrow.Author.Tests.{eqb-true, eq-eqb, ne_eqb, lt-ltb, le-ltb}
use Rattle.tree.specs.Parents.{parent}
use Rattle.tree.specs.Sides.{adjacent}
use Rattle.tree.specs.Kept.{keep_if, kept}
use Rattle.tree.proofs.Cases.{either, order}
use Rattle.tree.proofs.Toward.{adjacent_ne, adjacent_sym}
use Rattle.messages.specs.declared.Message.{Message}
use Rattle.session.specs.declared.Session.{Session}
use Rattle.mechanism.specs.Applying.{from_of, to_of, read_at, Links, cell, applied}
use Rattle.mechanism.specs.Pairwise.{about, Pair}
use Rattle.mechanism.proofs.Owned.{Owned}
use Rattle.mechanism.proofs.Cells.{Wide, way, touches, hits, cell_by, entry_applied}

-- (u,v) and (a,b) share their entry
abbrev slot : ℕ → ℕ → ℕ → ℕ → Bool
slot u v a b = cond (ltb v u) (ltb b a && eqb u a) (not (ltb b a) && eqb v b)

module _ (ps : List ℕ) (u v a b : ℕ) (hp : adjacent ps v u ≡ true) (hq : adjacent ps b a ≡ true) where
  child : (u v : ℕ) → adjacent ps v u ≡ true → v < u → parent ps u ≡ v
  child u v h l = eqb-true (parent ps u) v (rw (lt-ltb v u l) at h)

  slot_is : slot u v a b ≡ (eqb a u && eqb b v)
  slot_is = order v u
      (λ l. rw (lt-ltb v u l) (either (ℕ_discrete a u)
      (λ e. order b a
      (λ m. let o : b ≡ v = sym (child a b hq m) ∙ ap (parent ps) e ∙ child u v hp l in rw (lt-ltb b a m, eq-eqb u a (sym e), eq-eqb a u e, eq-eqb b v o))
      (λ m. absurd (adjacent_ne ps b a hq m))
      (λ m. rw (le-ltb b a (omega arith), ne_eqb b v (omega arith), and-false)))
      (λ e. rw (ne_eqb u a (λ o. e (sym o)), ne_eqb a u e, and-false))))
      (λ e. absurd (adjacent_ne ps v u hp e))
      (λ l. rw (le-ltb v u (omega arith)) (either (ℕ_discrete b v)
      (λ e. order b a
      (λ m. rw (lt-ltb b a m, ne_eqb a u (omega arith)))
      (λ m. absurd (adjacent_ne ps b a hq m))
      (λ m. let o : a ≡ u = sym (child b a (adjacent_sym ps a b ∙ hq) m) ∙ ap (parent ps) e ∙ child v u (adjacent_sym ps u v ∙ hp) l in
      rw (le-ltb b a (omega arith), eq-eqb v b (sym e), eq-eqb b v e, eq-eqb a u o)))
      (λ e. rw (ne_eqb v b (λ o. e (sym o)), ne_eqb b v e, and-false (not (ltb b a)), and-false))))

-- tests that agree on pairs of neighbours keep the same of a request's messages
kept_same : (s : Session) (P Q : Message → Bool) → ((m : Message) → Pair s (from_of m) (to_of m) → P m ≡ Q m) → (ms : List Message) → Owned s ms → kept P ms ≡ kept Q ms
unfolding kept
kept_same s P Q h [] o = refl
kept_same s P Q h (m ∷ ms) o = ap (λ (t : Bool). keep_if t m (kept P ms)) (h m o.0) ∙ ap (keep_if (Q m) m) (kept_same s P Q h ms o.1)

kept_none : (ms : List Message) → kept (λ m. false) ms ≡ []
unfolding kept
kept_none [] = refl
kept_none (m ∷ ms) = kept_none ms

module _ (s : Session) (ms : List Message) (owned : Owned s ms) (l : Links) (wide : Wide l) (few : s.tree.count ≤ 256) where
  -- the cell of a pair is what its own messages make of it
  pub cell_applied : (u v : ℕ) → Pair s u v → cell (applied ms l) u v ≡ hits (kept (about u v) ms) (cell l u v)
  cell_applied u v p =
      rw (cell_by (applied ms l) u v, cell_by l u v)
      (go (ltb v u)
      ∙ ap (λ k. hits k (cond (ltb v u) (read_at l.up u) (read_at l.down v)))
      (kept_same s _ (about u v) (λ m q. slot_is s.tree.parents (from_of m) (to_of m) u v q.edge p.edge) ms owned))
    where
      go : (t : Bool) → cond t (read_at (applied ms l).up u) (read_at (applied ms l).down v)
          ≡ hits (kept (λ m. cond (ltb (to_of m) (from_of m)) (t && eqb (from_of m) u) (not t && eqb (to_of m) v)) ms) (cond t (read_at l.up u) (read_at l.down v))
      go true = entry_applied true u (omega (arith, p.near)) ms l wide
      go false = entry_applied false v (omega (arith, p.far)) ms l wide

  module _ (i : ℕ) (inside : i < 256) (idle : (i ≡ 0) ⊎ (s.tree.count ≤ i)) where
    elsewhere : (c : ℕ) → 0 < c → c < s.tree.count → c ≢ i
    elsewhere c z h e = go idle
      where
        go : (i ≡ 0) ⊎ (s.tree.count ≤ i) → ⊥
        go (inl o) = omega arith
        go (inr o) = omega arith

    passes_by : (t : Bool) (m : Message) → Pair s (from_of m) (to_of m) → touches t i m ≡ false
    passes_by t m p = order (to_of m) (from_of m)
        (λ l. rw (lt-ltb (to_of m) (from_of m) l, ne_eqb (from_of m) i (elsewhere (from_of m) (omega arith) p.near)) (and-false t))
        (λ e. absurd (adjacent_ne s.tree.parents (to_of m) (from_of m) p.edge e))
        (λ l. rw (le-ltb (to_of m) (from_of m) (omega arith), ne_eqb (to_of m) i (elsewhere (to_of m) (omega arith) p.far)) (and-false (not t)))

    -- an entry that is not used stays as it is
    pub idle_applied : (t : Bool) → read_at (way t (applied ms l)) i ≡ read_at (way t l) i
    idle_applied t = entry_applied t i inside ms l wide ∙ ap (λ k. hits k (read_at (way t l) i)) (kept_same s (touches t i) (λ m. false) (passes_by t) ms owned ∙ kept_none ms)
