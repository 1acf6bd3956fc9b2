-- What is promised of refusals. The theorem that proves a statement bears its name in small letters.
use Rattle.std.specs.Prelude.{◌≡◌, ◌≤◌, Result}
use Rattle.refusal.specs.Numbers.{number, told}
use Rattle.refusal.specs.declared.Refusal.{Refusal}

-- The numbers are those from 1 to 11.
abbrev pub NumbersWithin : Type 0
NumbersWithin = (r : Refusal) → (1 ≤ number r) × (number r ≤ 11)

-- No two refusals have the same number.
abbrev pub NumbersApart : Type 0
NumbersApart = (a b : Refusal) → number a ≡ number b → a ≡ b

-- What is told leaves one answer.
abbrev pub ToldApart : Type 0 → Type 0
ToldApart A = (z : A) (a b : Result A Refusal) → told z a ≡ told z b → a ≡ b
