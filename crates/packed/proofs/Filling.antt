-- Where bytes end, as a test and as facts.
use mathlib.Core.Path.{◌≡◌, refl, sym, ◌∙◌}
use mathlib.Core.Bool.{Bool, true, false, ◌&&◌, and-false, and-eq-true_iff, true≢false}
use mathlib.Core.Logic.{◌⊎◌, inl, inr, ⊎_elim}
use mathlib.Core.List.{List}
use Prim.Native.Nat.{ℕ, ◌≤◌, ◌<◌}
use native.Mathlib.Decide.{ℕ_discrete}
use native.Mathlib.Omega.{arith}
use lib.Dec.{eqb, leb}
use lib.ListN.{length}
use borrow.Author.Tests.{le-leb, lt-leb, leb-true, eq-eqb, ne_eqb, eqb-true}
use Rattle.fields.specs.Fields.{field}
use Rattle.fields.specs.Usable.{usable_bits, field_at}
use Rattle.std.specs.Prelude.{Ok, Err}
use Rattle.refusal.specs.declared.Refusal.{Refusal}
use Rattle.fields.proofs.Rooms.{found, cut_off}
use Rattle.packed.specs.Parts.{bytes_for, left, ends}
use Rattle.packed.specs.Promises.{EndsExactly, LeftOverExactly}

pub ends_exactly : EndsExactly
unfolding ends
ends_exactly s place = (
  λ e.
      let a = (and-eq-true_iff (leb place (usable_bits (length s))) (eqb (length s) (bytes_for place) && eqb (field s place (left place)) 0)).0 e in
      let b = (and-eq-true_iff (eqb (length s) (bytes_for place)) (eqb (field s place (left place)) 0)).0 a.1 in
      (leb-true _ _ a.0, eqb-true _ _ b.0, eqb-true _ _ b.1),
  λ h. rw (le-leb place (usable_bits (length s)) h.0, eq-eqb (length s) (bytes_for place) h.1, eq-eqb (field s place (left place)) 0 h.2),
)

pub left_over_exactly : LeftOverExactly
left_over_exactly s place u = (λ e. over e (ℕ_discrete (length s) (bytes_for place)) (ℕ_discrete (field s place (left place)) 0), λ o. no (ends s place) refl o)
  where
    over : ends s place ≡ false → Dec (length s ≡ bytes_for place) → Dec (field s place (left place) ≡ 0) → (bytes_for place < length s) ⊎ (0 < field s place (left place))
    over e (yes b) (yes f) = absurd (true≢false (sym ((ends_exactly s place).1 (u, b, f)) ∙ e))
    over e (yes b) (no f) = inr (omega arith)
    over e (no b) f = inl (omega arith)

    no : (b : Bool) → ends s place ≡ b → (bytes_for place < length s) ⊎ (0 < field s place (left place)) → b ≡ false
    no true e o = let h = (ends_exactly s place).0 e in ⊎_elim (λ (l : bytes_for place < length s). absurd (omega (arith, h.1))) (λ (l : 0 < field s place (left place)). absurd (omega (arith, h.2))) o
    no false e o = refl

-- ---- the test, step by step

module _ (s : List ℕ) (place : ℕ) where
  pub ends_past : usable_bits (length s) < place → ends s place ≡ false
  unfolding ends
  ends_past h = rw (lt-leb place (usable_bits (length s)) h)

  pub ends_more : (length s ≡ bytes_for place → ⊥) → ends s place ≡ false
  unfolding ends
  ends_more h = rw (ne_eqb (length s) (bytes_for place) h) (and-false (leb place (usable_bits (length s))))

  module _ (u : place ≤ usable_bits (length s)) (e : length s ≡ bytes_for place) (w : ℕ) (q : w ≡ left place) where
    pub ends_there : (r : Refusal) → field_at s place w ≡ Err r → ⊥
    ends_there r f = omega (arith, (cut_off s place w (omega arith) r f).1)

    pub ends_as : (n : ℕ) → field_at s place w ≡ Ok n → eqb n 0 ≡ ends s place
    unfolding ends
    ends_as n f = rw (le-leb place (usable_bits (length s)) u, eq-eqb (length s) (bytes_for place) e, ← q, ← (found s place w n f).2)
