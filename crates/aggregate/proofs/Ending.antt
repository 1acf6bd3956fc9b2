-- The end of a request: what it answers, returns and logs, from the steps before.
use mathlib.Core.Path.{◌≡◌, refl, sym, ◌∙◌}
use mathlib.Core.Bool.{Bool, true, false}
use mathlib.Core.Logic.{◌≢◌}
use mathlib.Core.List.{List}
use Prim.Native.Nat.{ℕ, zero, suc, ◌+◌, ◌≤◌}
use native.Mathlib.Nat.{suc-ne-zero}
use native.Mathlib.Omega.{arith}
use lib.IntN.{ℤ}
use lib.ListN.{length}
use borrow.Author.Tests.{ne_eqb}
use Rattle.tree.specs.Operation.{sum}
use Rattle.messages.specs.Writing.{bits_of_all, room_for_all}
use Rattle.requests.specs.declared.Request.{Request}
use Rattle.session.specs.Holding.{Typed}
use Rattle.session.specs.Soundness.{sound, Sound}
use Rattle.session.specs.declared.Session.{Session}
use Rattle.requests.specs.Lists.{node_of, Small}
use Rattle.mechanism.specs.Requests.{says, after}
use Rattle.mechanism.specs.Refusals.{all_fit, refusal_of}
use Rattle.mechanism.proofs.Few.{few_messages}
use Rattle.mechanism.proofs.Fits.{messages_fit, never_misfit, sum_ranging}
use Rattle.trace.specs.inner.Traces.{messages_of, trace, pushed_all, logged_of, log_after_all}
use Rattle.std.specs.Prelude.{Result, Ok, Err}
use Rattle.refusal.specs.declared.Refusal.{Refusal}
use Rattle.trace.proofs.Traced.{trace_holds}
use Rattle.aggregate.specs.inner.Acts.{early_refusal}
use Rattle.aggregate.specs.Serving.{refused, refusal, served_of, log_of}
use Rattle.aggregate.proofs.Judging.{Ready, refused_before, by_room}

-- an unsound session is refused with 6
pub ends_unsound : (s : Session) (r : Request) (log : List ℕ) (place : ℕ) → sound 2 s ≡ false → (refused 6 s ≡ served_of s r (length log) place) × (log ≡ log_of s r log place)
unfolding served_of log_of refusal_of
ends_unsound s r log place e = (rw e, rw e)

module _ (s : Session) (r : Request) (log : List ℕ) (place : ℕ) where
  -- a refusal before the walk is the whole outcome
  pub ends_early : Sound 2 s → (n : ℕ) → n ≡ early_refusal s.tree.count s.accepted (node_of r) → n ≢ 0 → (refused n s ≡ served_of s r (length log) place) × (log ≡ log_of s r log place)
  unfolding served_of log_of
  ends_early holds zero e d = absurd (d refl)
  ends_early holds (suc n) e d =
      let i : refusal s r (length log) place ≡ suc n = refused_before s holds (node_of r) (length log) place (says sum s r).log (λ o. d (e ∙ o)) ∙ sym e in
      (rw i, rw (i, ne_eqb (suc n) 0 (omega arith)))

  -- past these tests the room decides
  module _ (ready : Ready s (node_of r)) (fit : all_fit (says sum s r).log ≡ true) (answer : Result ℕ Refusal) (told : answer ≡ logged_of (length log) place (says sum s r).log)
      (log' : List ℕ) (logs : log' ≡ log_after_all log place (says sum s r).log) where
    -- refused for lack of room
    pub ends_full : {x : Refusal} → answer ≡ Err x → (refused 9 s ≡ served_of s r (length log) place) × (log' ≡ log_of s r log place)
    unfolding served_of log_of logged_of log_after_all
    ends_full {x} full = go (room_for_all (length log) place (says sum s r).log) refl
      where
        go : (b : Bool) → room_for_all (length log) place (says sum s r).log ≡ b → (refused 9 s ≡ served_of s r (length log) place) × (log' ≡ log_of s r log place)
        go true e = let d = rw e at told in let y : ◌≡◌ {A = ℕ} 1 0 = cc in absurd (suc-ne-zero 0 y)
        go false e = let i : refusal s r (length log) place ≡ 9 = by_room s (node_of r) (length log) place (says sum s r).log ready fit ∙ rw e in (rw i, rw (logs, i, e))

    -- accepted
    pub ends_well : (z : ℤ) (k next : ℕ) (t : Session) → z ≡ (says sum s r).sum → k ≡ length (says sum s r).log → answer ≡ Ok next → t ≡ after sum 2 s r
        → (record { outcome = record { refusal = 0; answer = z; messages = k; next = next }; session = t } ≡ served_of s r (length log) place) × (log' ≡ log_of s r log place)
    unfolding served_of log_of logged_of log_after_all
    ends_well z k next t answers counts all becomes = go (room_for_all (length log) place (says sum s r).log) refl
      where
        go : (b : Bool) → room_for_all (length log) place (says sum s r).log ≡ b
            → (record { outcome = record { refusal = 0; answer = z; messages = k; next = next }; session = t } ≡ served_of s r (length log) place) × (log' ≡ log_of s r log place)
        go true e =
            let d = rw e at told in
            let n : next ≡ place + bits_of_all (says sum s r).log = cc in
            let i : refusal s r (length log) place ≡ 0 = by_room s (node_of r) (length log) place (says sum s r).log ready fit ∙ rw e in
            (rw (i, answers, counts, n, becomes), rw (logs, i, e))
        go false e = let d = rw e at told in let y : ◌≡◌ {A = ℕ} 1 0 = cc in absurd (suc-ne-zero 0 y)

-- what was walked is what the request says, and it is fit for trace and log
pub record Spoken (s : Session) (r : Request) (numbers : List ℕ) (len : ℕ) : Type 0 where
  pub holds : messages_of numbers len ≡ (says sum s r).log
  pub long : len ≡ length (says sum s r).log
  pub few : len ≤ 510
  pub fit : all_fit (says sum s r).log ≡ true

pub spoken : (s : Session) (r : Request) (ns numbers : List ℕ) (len : ℕ) → Typed s → Small r → Ready s (node_of r) → length ns ≡ 510
    → trace numbers len ≡ pushed_all (says sum s r).log (trace ns 0) → Spoken s r numbers len
spoken s r ns numbers len typed small ready room e =
    let few = (few_messages sum 2 s ready.holds r ready.inside).0 in
    let sized = messages_fit sum 2 sum_ranging s typed ready.holds r small ready.inside in
    let h = trace_holds (says sum s r).log ns numbers len sized few room e in
    record { holds = h.1; long = h.0; few = omega (arith, few, h.0); fit = never_misfit (says sum s r).log sized }
