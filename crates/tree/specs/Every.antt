-- A test of all places.
use Rattle.std.specs.Prelude.{Bool, true, ◌&&◌, ℕ, zero, suc}

-- every number below n passes the test
unfoldable pub every : (ℕ → Bool) → ℕ → Bool
every test zero = true
every test (suc n) = every test n && test n
