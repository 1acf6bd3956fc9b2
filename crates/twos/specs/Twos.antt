-- Two's complement in a field of w bits.
use Rattle.std.specs.Prelude.{ℕ, suc, ◌-◌, ◌^◌, Bool, cond, ◌&&◌, leb, ltb, ℤ, pos, negsuc, Result, Ok, Err}
use Rattle.std.specs.Int.Signed.{mag}
use Rattle.refusal.specs.declared.Refusal.{Refusal}
use Rattle.refusal.specs.declared.Refusal.TheVariants.{Misfit}

-- the number that stands for z; negsuc n is -1 - n
abbrev pub twos : ℕ → ℤ → ℕ
twos w (pos n) = n
twos w (negsuc n) = 2 ^ w - suc n

-- the integer that n stands for
unfoldable pub signed : ℕ → ℕ → ℤ
signed w n = cond (ltb n (2 ^ (w - 1))) (pos n) (negsuc (2 ^ w - suc n))

-- w is 1 to 64
unfoldable pub wide : ℕ → Bool
wide w = leb 1 w && leb w 64

-- z is from -2 ^ (w - 1) to 2 ^ (w - 1) - 1; mag is n of the integer n, and of -1 - n
abbrev pub within : ℕ → ℤ → Bool
within w z = ltb (mag z) (2 ^ (w - 1))

-- a field of w bits has a number for z, and a value for n
unfoldable pub encodes : ℕ → ℤ → Bool
encodes w z = wide w && within w z

unfoldable pub decodes : ℕ → ℕ → Bool
decodes w n = wide w && ltb n (2 ^ w)

unfoldable pub encoded : ℕ → ℤ → Result ℕ Refusal
encoded w z = cond (encodes w z) (Ok (twos w z)) (Err Misfit)

unfoldable pub decoded : ℕ → ℕ → Result ℤ Refusal
decoded w n = cond (decodes w n) (Ok (signed w n)) (Err Misfit)

-- the value of a number as an i32, where it fits one
abbrev pub narrowed : Result ℤ Refusal → Result ℤ Refusal
narrowed (Ok z) = cond (within 32 z) (Ok z) (Err Misfit)
narrowed (Err r) = Err r

unfoldable pub decoded32 : ℕ → ℕ → Result ℤ Refusal
decoded32 w n = narrowed (decoded w n)
