-- A message and its width, from its kind.
use mathlib.Core.Path.{◌≡◌, refl}
use mathlib.Core.Bool.{Bool, true, false, cond}
use Prim.Native.Nat.{ℕ, zero, suc}
use native.Mathlib.Omega.{arith}
use borrow.Author.Tests.{ne_eqb}
use lib.Dec.{eqb}
use lib.IntN.{ℤ}
use Rattle.messages.specs.Records.{width_of}
use Rattle.messages.specs.Reading.{message_of}
use Rattle.messages.specs.declared.Message.{Message}
use Rattle.messages.specs.declared.Message.TheVariants.{Probe, Response, Update, Release}
use Rattle.messages.specs.declared.kind.Kind.{Kind}
use Rattle.messages.specs.declared.kind.Kind.TheVariants as kind
use Rattle.messages.specs.inner.Kinds.{number, kind_at}

-- the message of a kind
abbrev pub made : Kind → ℕ → ℕ → ℤ → Message
made kind.Probe a b z = Probe a b
made kind.Response a b z = Response a b z
made kind.Update a b z = Update a b z
made kind.Release a b z = Release a b

pub made_at : (n a b : ℕ) (z : ℤ) → message_of n a b z ≡ made (kind_at n) a b z
unfolding message_of kind_at
made_at n a b z = go (eqb n 0) (eqb n 1) (eqb n 2)
  where
    go : (x y u : Bool) → cond x (Probe a b) (cond y (Response a b z) (cond u (Update a b z) (Release a b))) ≡ made (cond x kind.Probe (cond y kind.Response (cond u kind.Update kind.Release))) a b z
    go true y u = refl
    go false true u = refl
    go false false true = refl
    go false false false = refl

pub width_at : (n : ℕ) → width_of (number (kind_at n)) ≡ width_of n
unfolding width_of kind_at
width_at zero = refl
width_at (suc zero) = refl
width_at (suc (suc zero)) = refl
width_at (suc (suc (suc n))) = rw (ne_eqb (suc (suc (suc n))) 0 (λ e. omega arith), ne_eqb (suc (suc (suc n))) 1 (λ e. omega arith), ne_eqb (suc (suc (suc n))) 2 (λ e. omega arith))
