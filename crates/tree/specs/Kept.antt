-- What is left of a list by a test.
use Rattle.std.specs.Prelude.{Bool, true, false, cond, List, [], ◌∷◌}

-- the list l where the test holds, no elements where it does not
abbrev pub when : {M : Type 0} → Bool → List M → List M
when b l = cond b l []

-- those elements of a list that pass the test, in order
abbrev pub keep_if : {M : Type 0} → Bool → M → List M → List M
keep_if true m l = m ∷ l
keep_if false m l = l

unfoldable pub kept : {M : Type 0} → (M → Bool) → List M → List M
kept test [] = []
kept test (m ∷ l) = keep_if (test m) m (kept test l)
