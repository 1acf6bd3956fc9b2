-- The paper's section 5: the configurations of the rule, by the last requests of the pair's own list, and the potential of the bound's proof.
use Rattle.std.specs.Prelude.{ℕ, zero, suc, ◌+◌, ◌*◌, List, [], ◌∷◌, ◌++◌}
use Rattle.rule.specs.Pair.{Request, combine, write}
use Rattle.rule.specs.Schedules.{Mode, off, on}

pub data Configuration : List Request → ℕ → Type 0 where
  initial : Configuration [] 0
  combine_last : (l : List Request) → Configuration (l ++ (combine ∷ [])) 2
  combine_write_last : (l : List Request) → Configuration (l ++ (combine ∷ write ∷ [])) 1
  write_write_last : (l : List Request) → Configuration (l ++ (write ∷ write ∷ [])) 0
  -- the one list that the paper's four cases leave out: it stays as it was
  one_write : Configuration (write ∷ []) 0

-- the paper's potential, doubled, of a schedule's mode and a lease number: 0, 4, 6 and 5, 4, 1 at 0, 1, 2
unfoldable pub potential : Mode → ℕ → ℕ
potential off zero = 0
potential off (suc k) = 4 + 2 * k
potential on zero = 5
potential on (suc zero) = 4
potential on (suc (suc k)) = 1 + 2 * k
