-- A write at a node none of whose neighbours holds a lease says nothing.
use mathlib.Core.Path.{◌≡◌, refl, sym, ◌∙◌}
use mathlib.Core.Bool.{Bool, true, false, true≢false}
use mathlib.Core.List.{List, []}
use mathlib.Core.Logic.{◌≢◌}
use Prim.Native.Nat.{ℕ, zero, suc, ◌<◌}
use native.Mathlib.Omega.{arith}
use lib.IntN.{ℤ}
use Rattle.tree.specs.Operation.{sum}
use Rattle.tree.specs.Sides.{adjacent, other}
use Rattle.tree.specs.Turns.{turn}
use Rattle.tree.proofs.Cases.{order}
use Rattle.tree.proofs.Lists.{joined_none}
use Rattle.messages.specs.declared.Message.{Message}
use Rattle.mechanism.specs.Views.{View}
use Rattle.mechanism.specs.Spreading.{sends, spread, write}
use Rattle.walk.specs.inner.Links.{Found, neighbour_at, Turned}
use Rattle.walk.specs.inner.Telling.{SilentUpTo}

-- ---- from neighbour to neighbour

module _ {n : ℕ} {ps : List ℕ} {lease : ℕ → ℕ → ℕ} {x : ℕ} where
  pub silent_first : {r : ℕ} → Found n (neighbour_at n ps x) 0 r → SilentUpTo n ps lease x r
  silent_first f = record { none = λ j l b. absurd (true≢false (sym b ∙ f.skipped j (omega arith) l)) }

  pub silent_next : {k r w : ℕ} → SilentUpTo n ps lease x k → Turned n ps x k w r → lease x w ≡ 0 → SilentUpTo n ps lease x r
  silent_next {k} h f z =
      record {
        none = λ j l b. order j k
            (λ m. h.none j m b)
            (λ o. rw (o, ← f.turned) z)
            (λ m. absurd (true≢false (sym b ∙ f.next.skipped j (omega arith) l)));
      }

  pub silent_all : {k : ℕ} → k ≡ n → SilentUpTo n ps lease x k → SilentUpTo n ps lease x n
  silent_all e h = rw e at h

-- ---- the walk

module _ (q : View) (x : ℕ) where
  unsent : (next : ℕ → ℕ → ℤ → List Message) (z : ℤ) (w : ℕ) → (adjacent q.parents w x ≡ true → q.lease x w ≡ 0) → sends sum q (other q.parents x x w) (q.lease x w) next x x z w ≡ []
  unfolding sends
  unsent next z w h = go (adjacent q.parents w x) refl
    where
      zero_sends : (b : Bool) → sends sum q b 0 next x x z w ≡ []
      zero_sends true = refl
      zero_sends false = refl

      go : (b : Bool) → adjacent q.parents w x ≡ b → sends sum q (other q.parents x x w) (q.lease x w) next x x z w ≡ []
      go true e = rw (h e) (zero_sends (other q.parents x x w))
      go false e = rw e

  silent_spread : (f : ℕ) (z : ℤ) → f ≢ 0 → SilentUpTo q.count q.parents q.lease x q.count → spread sum q f x x z ≡ []
  unfolding spread neighbour_at
  silent_spread zero z d s = absurd (d refl)
  silent_spread (suc f) z d s = joined_none _ q.count (λ k l. unsent (spread sum q f) z (turn q.count x k) (s.none k l))

  pub silent_write : x < q.count → SilentUpTo q.count q.parents q.lease x q.count → write sum q x ≡ []
  silent_write inside s = silent_spread q.count sum.ε (λ e. omega (arith, inside)) s
