-- `push` meets its contract: a message that has a number is added where there is room.
use mathlib.Core.Path.{◌≡◌, sym, ap, ◌∙◌}
use mathlib.Core.Bool.{true, false}
use Prim.Native.Nat.{ℕ}
use Rattle.std.specs.Prelude.{Ok, Err}
use Rattle.refusal.specs.Numbers.{told}
use Rattle.refusal.specs.declared.Refusal.{Refusal}
use Rattle.messages.specs.Records.{fits, coded, coded_of}
use Rattle.messages.specs.declared.Message.{Message}
use Rattle.messages.proofs.Answers.{coded_exactly, by_fit}
use Rattle.trace.proofs.Traced.{pushed_room, pushed_full, pushed_misfit}
use Rattle.trace.proofs.Trace.push.Goals as goal

-- what coding has answered
number : (m : Message) (n : ℕ) → Ok n ≡ coded_of m → (fits m ≡ true) × (n ≡ coded m)
number m n e = (coded_exactly m n).0 (sym (ap (told 0) e))

misfit : (m : Message) (r : Refusal) → Err r ≡ coded_of m → fits m ≡ false
misfit m r e = by_fit m (λ x. Err r ≡ x → fits m ≡ false) (λ f k. cc) (λ f k. f) e

pub returns-in_default : goal.returns-in_default
returns-in_default c = sym (pushed_misfit _ _ _ (misfit _ _ (sym c.in_default.is ∙ c.code.ensures)))

pub returns-then-self-lt510 : goal.returns-then-self-lt510
returns-then-self-lt510 c =
    let n = number _ _ (sym c.in-Ok.is ∙ c.code.ensures) in
    rw n.1 (sym (pushed_room _ _ _ n.0 c.if-self-lt510.true))

pub returns-else-self-lt510 : goal.returns-else-self-lt510
returns-else-self-lt510 c = sym (pushed_full _ _ _ c.if-self-lt510.false)
