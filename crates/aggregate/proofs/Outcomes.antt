-- Each public contract leaves one outcome. It is the function's own contract, as its source states it: `Post` of its `Reads`.
use mathlib.Core.Path.{sym, ap₂, ◌∙◌}
use mathlib.Core.List.{List}
use Prim.Native.Nat.{ℕ}
use lib.IntN.{ℤ}
use Rattle.refusal.specs.Outcomes.{OneOutcome}
use Rattle.aggregate.proofs.Telling.{told_served_apart, told_ran_apart}
use Rattle.aggregate.proofs.combine.Reads as combine
use Rattle.aggregate.proofs.write.Reads as write
use Rattle.aggregate.proofs.request.Reads as request
use Rattle.aggregate.proofs.run.Reads as run

pub combine_once : OneOutcome combine.Post (λ κ s. s.1.1.0.now)
combine_once κ a x y s t p q = (told_served_apart _ x y (p.0 ∙ sym q.0), p.1 ∙ sym q.1)

pub write_once : OneOutcome write.Post (λ κ s. s.1.1.1.0.now)
write_once κ a x y s t p q = (told_served_apart _ x y (p.0 ∙ sym q.0), p.1 ∙ sym q.1)

pub request_once : OneOutcome request.Post (λ κ s. s.1.1.0.now)
request_once κ a x y s t p q = (told_served_apart _ x y (p.0 ∙ sym q.0), p.1 ∙ sym q.1)

pub run_once : OneOutcome {L = List ℤ × List ℕ} run.Post (λ κ s. (s.1.1.0.now, s.1.1.1.0.now))
run_once κ a x y s t p q = (told_ran_apart _ x y (p.0 ∙ sym q.0) (p.3 ∙ sym q.3), ap₂ (λ v w. (v, w)) (p.1 ∙ sym q.1) (p.2 ∙ sym q.2))
