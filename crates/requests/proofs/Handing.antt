-- The requests of an accepted list are handed out one behind the other.
use mathlib.Core.Path.{◌≡◌, ap}
use mathlib.Core.List.{List}
use Prim.Native.Nat.{ℕ, zero, suc, ◌+◌, ◌≤◌}
use native.Mathlib.Omega.{arith}
use lib.ListN.{length}
use Rattle.fields.specs.Usable.{usable_bits}
use Rattle.requests.specs.Promises.{HandedOut}
use Rattle.requests.specs.Reading.{told, Hands, count_at, place_of, requests_from}
use Rattle.requests.proofs.Places.{place_up}
use Rattle.requests.proofs.Items.{item_there}
use Rattle.requests.proofs.Refusals.{usable, accepted, list_ruled_exactly, judged_whole}

-- from request j on, up to request n
hands : (s : List ℕ) (j k n : ℕ) → j + k ≡ n → place_of s n ≤ usable_bits (length s) → Hands s (place_of s j) (requests_from s (place_of s j) k)
unfolding requests_from place_of
hands s j zero n e u = tt
hands s j (suc k) n e u = (place_of s (suc j), ap told (item_there s (place_of s j) (omega (arith, place_up s (suc j) n (omega arith)))), hands s (suc j) k n (omega arith) u)

pub handed_out : HandedOut
unfolding place_of
handed_out s e =
    let h = (list_ruled_exactly s 0).0 e in
    let a = accepted s h in
    let n : ℕ = count_at s in
    rw (judged_whole s h) (hands s 0 n n (omega arith) (usable s n a.0 (omega (arith, a.1))))
