-- An operation that joins values, what it makes of many, and the two that are used: + on ℕ, for sizes, and + on ℤ, for values.
use Rattle.std.specs.Prelude.{◌≡◌, refl, Bool, cond, ℕ, zero, suc, ◌+◌, ℤ, pos, ◌+ℤ◌}
use Rattle.std.proofs.Common.{add_assoc, add_comm}
use Rattle.std.proofs.Math.IntN.{+ℤ_assoc, +ℤ_comm}

-- ε need be a unit for itself alone: smallest on all of ℤ has no unit, and is an operation too.
pub record Op (A : Type 0) : Type 0 where
  infixl 60 ◌⊕◌
  pub ◌⊕◌ : A → A → A
  pub ε : A
  pub assoc : (a b c : A) → (a ⊕ b) ⊕ c ≡ a ⊕ (b ⊕ c)
  pub comm : (a b : A) → a ⊕ b ≡ b ⊕ a
  pub idem : ε ⊕ ε ≡ ε

module _ {A : Type 0} (op : Op A) where
  -- f 0 to f (n - 1) joined, one after the other
  abbrev pub fold : (ℕ → A) → ℕ → A
  fold f zero = op.ε
  fold f (suc n) = op.◌⊕◌ (fold f n) (f n)

  -- x where the test holds, ε where it does not
  abbrev pub pick : Bool → A → A
  pick b x = cond b x op.ε

  -- the aggregate of f over the nodes below n that pass the test
  abbrev pub aggregate : (ℕ → A) → (ℕ → Bool) → ℕ → A
  aggregate f test n = fold (λ j. pick (test j) (f j)) n

abbrev pub plus : Op ℕ
plus = record { ◌⊕◌ = ◌+◌; ε = 0; assoc = add_assoc; comm = add_comm; idem = refl }

abbrev pub sum : Op ℤ
sum = record { ◌⊕◌ = ◌+ℤ◌; ε = pos 0; assoc = +ℤ_assoc; comm = +ℤ_comm; idem = refl }
