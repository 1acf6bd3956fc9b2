-- The parts of a record, as `fields` finds them and `twos` encodes and decodes them.
use mathlib.Core.Path.{◌≡◌, refl, sym, ◌∙◌}
use mathlib.Core.Bool.{Bool, true, false, cond}
use Prim.Native.Nat.{ℕ, ◌+◌, ◌*◌, ◌^◌, ◌<◌}
use native.Mathlib.Omega.{arith}
use lib.IntN.{ℤ}
use lib.Signed.{mag}
use mir.Facts.{to_z-of_z}
use mir.Syntax.{w64}
use mir.Val.{to_z, of_z}
use Rattle.std.specs.Prelude.{Ok, Err}
use Rattle.refusal.specs.declared.Refusal.{Refusal}
use Rattle.refusal.specs.declared.Refusal.TheVariants.{Misfit}
use Rattle.refusal.proofs.Numbers.{ok_no_err}
use Rattle.twos.specs.Twos.{twos, signed, wide, within, encodes, encoded, decoded}
use Rattle.messages.specs.Records.{fits, record_of}
use Rattle.messages.specs.declared.Message.{Message}
use Rattle.messages.specs.inner.Found.{behind, numbered}
use Rattle.messages.proofs.Widths.{value_lt}
use Rattle.twos.proofs.Misfits.{decodes_there}

-- a value that is handed on is the same value
pub handed_on : (z : ℤ) → mag z < 2 ^ 63 → to_z w64 (of_z w64 z) ≡ z
handed_on z h = to_z-of_z {w = w64} (record { sfits = h })

-- a value has a number exactly where it fits
pub number_is : (z : ℤ) → encoded 40 z ≡ cond (within 40 z) (Ok (twos 40 z)) (Err Misfit)
unfolding encoded encodes wide
number_is z = refl

module _ (z : ℤ) where
  pub has_number : (n : ℕ) → encoded 40 z ≡ Ok n → (within 40 z ≡ true) × (n ≡ twos 40 z)
  has_number n e = go (within 40 z) refl (sym (number_is z) ∙ e)
    where
      go : (b : Bool) → within 40 z ≡ b → cond b (Ok (twos 40 z)) (Err Misfit) ≡ Ok n → (within 40 z ≡ true) × (n ≡ twos 40 z)
      go true p f = (p, cc)
      go false p f = absurd (ok_no_err (sym f))

  pub has_none : (r : Refusal) → encoded 40 z ≡ Err r → (within 40 z ≡ false) × (r ≡ Misfit)
  has_none r e = go (within 40 z) refl (sym (number_is z) ∙ e)
    where
      go : (b : Bool) → within 40 z ≡ b → cond b (Ok (twos 40 z)) (Err Misfit) ≡ Err r → (within 40 z ≡ false) × (r ≡ Misfit)
      go true p f = absurd (ok_no_err f)
      go false p f = (p, cc)

-- 40 bits stand for a value
pub value_is : (n : ℕ) → n < 2 ^ 40 → decoded 40 n ≡ Ok (signed 40 n)
unfolding decoded
value_is n h = rw (decodes_there 40 n (omega arith) (omega arith) h)

-- a value behind a head has 58 bits
pub behind_small : (h n : ℕ) (z : ℤ) → behind h z ≡ Ok n → h < 262144 → n < 2 ^ 58
unfolding behind
behind_small h n z e l = go (within 40 z) refl e
  where
    go : (b : Bool) → within 40 z ≡ b → cond b (Ok (h * 2 ^ 40 + twos 40 z)) (Err Misfit) ≡ Ok n → n < 2 ^ 58
    go true p f = let g : h * 2 ^ 40 + twos 40 z ≡ n = cc in omega (arith, value_lt z p)
    go false p f = absurd (ok_no_err (sym f))

-- the record of a message, as it is made
module _ (m : Message) where
  pub record_made : (n : ℕ) → numbered m ≡ Ok n → (fits m ≡ true) × (n ≡ record_of m)
  unfolding numbered
  record_made n e = go (fits m) refl e
    where
      go : (b : Bool) → fits m ≡ b → cond b (Ok (record_of m)) (Err Misfit) ≡ Ok n → (fits m ≡ true) × (n ≡ record_of m)
      go true p f = (p, cc)
      go false p f = absurd (ok_no_err (sym f))

  pub not_made : (r : Refusal) → numbered m ≡ Err r → (fits m ≡ false) × (r ≡ Misfit)
  unfolding numbered
  not_made r e = go (fits m) refl e
    where
      go : (b : Bool) → fits m ≡ b → cond b (Ok (record_of m)) (Err Misfit) ≡ Err r → (fits m ≡ false) × (r ≡ Misfit)
      go true p f = absurd (ok_no_err f)
      go false p f = (p, cc)
