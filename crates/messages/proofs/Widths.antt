-- How many bits a record has, and that its number fits them.
use mathlib.Core.Path.{◌≡◌}
use mathlib.Core.Bool.{Bool, true, false, cond, ◌||◌}
use Prim.Native.Nat.{ℕ, ◌^◌, ◌≤◌, ◌<◌}
use native.Mathlib.Omega.{arith}
use lib.Dec.{eqb}
use lib.IntN.{ℤ}
use lib.Signed.{mag}
use borrow.Author.Tests.{ltb-true}
use Rattle.twos.specs.Twos.{twos, within}
use Rattle.twos.proofs.Signs.{twos_lt}
use Rattle.messages.specs.Records.{kind_of, width_of, record_of}
use Rattle.messages.specs.Promises.{RecordFits}
use Rattle.messages.specs.declared.Message.TheVariants.{Probe, Response, Update, Release}

module _ (kind : ℕ) where
  pub width_bounds : (18 ≤ width_of kind) × (width_of kind ≤ 58)
  unfolding width_of
  width_bounds = bounds (eqb kind 1 || eqb kind 2)
    where
      bounds : (b : Bool) → (18 ≤ cond b 58 18) × (cond b 58 18 ≤ 58)
      bounds true = (omega arith, omega arith)
      bounds false = (omega arith, omega arith)

-- a value that fits 40 bits has a number of 40 bits
pub value_lt : (z : ℤ) → within 40 z ≡ true → twos 40 z < 2 ^ 40
value_lt z h = twos_lt 40 (omega arith) z (ltb-true (mag z) (2 ^ 39) h)

pub record_fits : RecordFits
unfolding kind_of record_of width_of
record_fits (Probe a b) (ha, hb, h) = omega arith
record_fits (Response a b z) (ha, hb, h) = omega (arith, value_lt z h)
record_fits (Update a b z) (ha, hb, h) = omega (arith, value_lt z h)
record_fits (Release a b) (ha, hb, h) = omega arith
