-- That a contract leaves one outcome. Post κ a x s says that for the arguments a it allows the result x and leaves s of what was lent.
use Rattle.std.specs.Prelude.{◌≡◌}

module _ {ℓ ℓ₁ ℓ₂ ℓ₃} {K : Type ℓ} {A : K → Type ℓ₁} {R : K → Type ℓ₂} {E : K → Type ℓ₃} where
  -- whatever is handed in, any two results are equal
  abbrev pub OneResult : ((κ : K) → A κ → R κ → E κ → Type 0) → Type (ℓ ⊔ ℓ₁ ⊔ ℓ₂ ⊔ ℓ₃)
  OneResult Post = (κ : K) (a : A κ) (x y : R κ) (s t : E κ) → Post κ a x s → Post κ a y t → x ≡ y

  -- whatever is handed in, any two results are equal, and so is what is left of what was lent
  abbrev pub OneOutcome {ℓ₄} : {L : Type ℓ₄} → ((κ : K) → A κ → R κ → E κ → Type 0) → ((κ : K) → E κ → L) → Type (ℓ ⊔ ℓ₁ ⊔ ℓ₂ ⊔ ℓ₃ ⊔ ℓ₄)
  OneOutcome Post lent = (κ : K) (a : A κ) (x y : R κ) (s t : E κ) → Post κ a x s → Post κ a y t → (x ≡ y) × (lent κ s ≡ lent κ t)
