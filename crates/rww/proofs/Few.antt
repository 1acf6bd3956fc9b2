-- A list is judged to have at most 4,096 requests.
use mathlib.Core.Path.{◌≡◌, refl}
use mathlib.Core.List.{List}
use Prim.Native.Nat.{ℕ, zero, suc, ◌≤◌}
use native.Mathlib.Omega.{arith}
use Rattle.requests.specs.Told.{Judged}
use Rattle.requests.specs.Reading.{count_at, combines_to, refusal_of, verdict, judged_of}
use Rattle.requests.proofs.Refusals.{list_ruled_exactly, accepted}

pub few : (s : List ℕ) (told : Judged) → told ≡ judged_of s → told.requests ≤ 4096
unfolding judged_of
few s told is = rw is (go (refusal_of s) refl)
  where
    go : (r : ℕ) → refusal_of s ≡ r → (verdict r (count_at s) (combines_to s (count_at s))).requests ≤ 4096
    go zero e = (accepted s ((list_ruled_exactly s 0).0 (rw e))).0.few
    go (suc r) e = omega arith
