-- What is told leaves one answer.
use mathlib.Core.Path.{◌≡◌, ap}
use native.Mathlib.Omega.{arith}
use Prim.Native.Nat.{ℕ}
use Rattle.std.specs.Prelude.{Result, Ok, Err}
use Rattle.refusal.specs.declared.Refusal.{Refusal}
use Rattle.refusal.proofs.Numbers.{numbers_apart, numbers_within}
use Rattle.tree.specs.declared.Tree.{Tree}
use Rattle.table.specs.Told.{Reading, Written, told_reading, told_written}

pub reading_apart : (a b : Result Tree Refusal) → told_reading a ≡ told_reading b → a ≡ b
reading_apart (Ok a) (Ok b) e = ap Ok (ap (λ (r : Reading). r.tree) e)
reading_apart (Ok a) (Err b) e = absurd (omega (arith, ap (λ (r : Reading). r.refusal) e, numbers_within b))
reading_apart (Err a) (Ok b) e = absurd (omega (arith, ap (λ (r : Reading). r.refusal) e, numbers_within a))
reading_apart (Err a) (Err b) e = ap Err (numbers_apart a b (ap (λ (r : Reading). r.refusal) e))

pub written_apart : (a b : Result ℕ Refusal) → told_written a ≡ told_written b → a ≡ b
written_apart (Ok a) (Ok b) e = ap Ok (ap (λ (w : Written). w.bytes) e)
written_apart (Ok a) (Err b) e = absurd (omega (arith, ap (λ (w : Written). w.refusal) e, numbers_within b))
written_apart (Err a) (Ok b) e = absurd (omega (arith, ap (λ (w : Written). w.refusal) e, numbers_within a))
written_apart (Err a) (Err b) e = ap Err (numbers_apart a b (ap (λ (w : Written). w.refusal) e))
