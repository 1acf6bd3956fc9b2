-- The first n bytes have every field that lies in them, and tell what only those fields decide.
use mathlib.Core.Path.{◌≡◌, ap}
use mathlib.Core.List.{List}
use Prim.Native.Nat.{ℕ, ◌+◌, ◌*◌, ◌/◌, ◌≤◌}
use native.Mathlib.Decide.{dec_le}
use native.Mathlib.Omega.{arith}
use lib.ListN.{length, take}
use lib.Seq.{get_or-take, length-take-le, take_all}
use Rattle.fields.specs.Bits.{weight, digit, bit}
use Rattle.fields.specs.Fields.{field}
use Rattle.fields.specs.Promises.{ReadOfFirst}
use Rattle.fields.proofs.Kept.{same_field}

pub read_of_first : ReadOfFirst
unfolding bit
read_of_first n s place w h =
    same_field (take n s) s place w (λ k a b. ap (λ (x : ℕ). digit x (weight k)) (get_or-take n s (k / 8) 0 (omega arith)))

-- an answer that is the same for any two byte lists of n bytes or more with the same fields in their first n bytes is that of the first n bytes
pub first_decide : {A : Type 0} (answer : List ℕ → A) (n : ℕ)
    → ((s t : List ℕ) → n ≤ length s → n ≤ length t → ((place w : ℕ) → place + w ≤ 8 * n → field t place w ≡ field s place w) → answer t ≡ answer s)
    → (s : List ℕ) → answer (take n s) ≡ answer s
first_decide answer n same s = go (dec_le (length s) n)
  where
    go : Dec (length s ≤ n) → answer (take n s) ≡ answer s
    go (yes l) = ap answer (take_all n s l)
    go (no l) = let kept = length-take-le n s (omega arith) in same s (take n s) (omega arith) (omega (arith, kept)) (read_of_first n s)
