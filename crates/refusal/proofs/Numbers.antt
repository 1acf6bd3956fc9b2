-- Each number from 1 to 11 is that of one refusal.
use mathlib.Core.Path.{◌≡◌, sym, ap, refl, ◌∙◌}
use Rattle.std.specs.Prelude.{ℕ, cond, eqb, Ok, Err}
use Rattle.std.proofs.Common.{arith}
use Rattle.refusal.specs.Promises.{NumbersWithin, NumbersApart, ToldApart}
use Rattle.refusal.specs.Numbers.{number, refusal_in}
use Rattle.refusal.specs.declared.Refusal.{Refusal}
use Rattle.refusal.specs.declared.Refusal.TheVariants.{Short, NodeCount, Parent, LeftOver, ListCount, Unsound, NoNode, Limit, NoRoom, FewAnswers, Misfit}

-- the refusal of a number from 1 to 11
refusal_of : ℕ → Refusal
refusal_of n =
    cond (eqb n 1) Short (cond (eqb n 2) NodeCount (cond (eqb n 3) Parent (cond (eqb n 4) LeftOver (cond (eqb n 5) ListCount (cond (eqb n 6) Unsound (cond (eqb n 7) NoNode (cond (eqb n 8) Limit (cond (eqb n 9) NoRoom (cond (eqb n 10) FewAnswers (Misfit))))))))))

back : (r : Refusal) → refusal_of (number r) ≡ r
unfolding refusal_of
back Short = refl
back NodeCount = refl
back Parent = refl
back LeftOver = refl
back ListCount = refl
back Unsound = refl
back NoNode = refl
back Limit = refl
back NoRoom = refl
back FewAnswers = refl
back Misfit = refl

pub numbers_apart : NumbersApart
numbers_apart a b e = sym (back a) ∙ ap refusal_of e ∙ back b

pub numbers_within : NumbersWithin
numbers_within Short = (omega arith, omega arith)
numbers_within NodeCount = (omega arith, omega arith)
numbers_within Parent = (omega arith, omega arith)
numbers_within LeftOver = (omega arith, omega arith)
numbers_within ListCount = (omega arith, omega arith)
numbers_within Unsound = (omega arith, omega arith)
numbers_within NoNode = (omega arith, omega arith)
numbers_within Limit = (omega arith, omega arith)
numbers_within NoRoom = (omega arith, omega arith)
numbers_within FewAnswers = (omega arith, omega arith)
numbers_within Misfit = (omega arith, omega arith)

-- an answer is no refusal
pub ok_no_err : {A : Type 0} {a : A} {r : Refusal} → Ok a ≡ Err r → ⊥
ok_no_err {r = r} e = omega (arith, ap refusal_in e, numbers_within r)

pub told_apart : {A : Type 0} → ToldApart A
told_apart z (Ok a) (Ok b) e = ap Ok (ap (λ p. p.1) e)
told_apart z (Ok a) (Err b) e = absurd (omega (arith, ap (λ p. p.0) e, numbers_within b))
told_apart z (Err a) (Ok b) e = absurd (omega (arith, ap (λ p. p.0) e, numbers_within a))
told_apart z (Err a) (Err b) e = ap Err (numbers_apart a b (ap (λ p. p.0) e))
