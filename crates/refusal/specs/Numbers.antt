-- Document 01's numbers for saying no, and what an answer tells: its number with zeros, or 0 with its value.
use Rattle.std.specs.Prelude.{◌≡◌, ℕ, Result, Ok, Err}
use Rattle.refusal.specs.declared.Refusal.{Refusal}
use Rattle.refusal.specs.declared.Refusal.TheVariants.{Short, NodeCount, Parent, LeftOver, ListCount, Unsound, NoNode, Limit, NoRoom, FewAnswers, Misfit}

-- the number of a refusal
abbrev pub number : Refusal → ℕ
number Short = 1
number NodeCount = 2
number Parent = 3
number LeftOver = 4
number ListCount = 5
number Unsound = 6
number NoNode = 7
number Limit = 8
number NoRoom = 9
number FewAnswers = 10
number Misfit = 11

-- n is the number of a refusal
abbrev pub Numbers : Refusal → ℕ → Type 0
Numbers r n = n ≡ number r

-- the number of what was answered, 0 where it was not refused
abbrev pub refusal_in : {A : Type 0} → Result A Refusal → ℕ
refusal_in (Ok a) = 0
refusal_in (Err r) = number r

-- what an answer tells: 0 and the value, or the number of the refusal and a zero
abbrev pub told : {A : Type 0} → A → Result A Refusal → ℕ × A
told z (Ok a) = (0, a)
told z (Err r) = (number r, z)
