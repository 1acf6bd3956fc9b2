-- Schedules and their cost: document 01's table.
use Rattle.std.specs.Prelude.{ℕ, ◌+◌, Bool, true, false, List, [], ◌∷◌}
use Rattle.rule.specs.Pair.{Request, combine, write}

-- The mode of a schedule: it is on or off.
pub data Mode : Type 0 where
  off : Mode
  on : Mode

-- A schedule changes its mode only with the pair's requests. `Schedule m l c` is one that is in mode m before the list l and costs c.
-- The table's entries, by request, mode before and mode after:
pub data Schedule : Mode → List Request → ℕ → Type 0 where
  combine_off_off : {l : List Request} {c : ℕ} → Schedule off l c → Schedule off (combine ∷ l) (2 + c)
  combine_off_on : {l : List Request} {c : ℕ} → Schedule on l c → Schedule off (combine ∷ l) (2 + c)
  combine_on_on : {l : List Request} {c : ℕ} → Schedule on l c → Schedule on (combine ∷ l) (0 + c)
  write_off_off : {l : List Request} {c : ℕ} → Schedule off l c → Schedule off (write ∷ l) (0 + c)
  write_on_on : {l : List Request} {c : ℕ} → Schedule on l c → Schedule on (write ∷ l) (1 + c)
  write_on_off : {l : List Request} {c : ℕ} → Schedule off l c → Schedule on (write ∷ l) (2 + c)
  -- no requests, no cost
  end : {m : Mode} → Schedule m [] 0

-- a schedule that stays off
unfoldable pub stays_off : {m : Mode} {l : List Request} {c : ℕ} → Schedule m l c → Bool
stays_off (combine_off_off s) = stays_off s
stays_off (combine_off_on s) = false
stays_off (combine_on_on s) = false
stays_off (write_off_off s) = stays_off s
stays_off (write_on_on s) = false
stays_off (write_on_off s) = false
stays_off (end {m = off}) = true
stays_off (end {m = on}) = false
