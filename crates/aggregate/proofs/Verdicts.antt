-- A request is accepted or refused, and what it answers, returns and logs in either case.
use mathlib.Core.Path.{◌≡◌, refl, sym, ap, ◌∙◌}
use mathlib.Core.Bool.{true≢false}
use mathlib.Core.Logic.{inl, inr}
use mathlib.Core.List.{List}
use Prim.Native.Nat.{ℕ, zero, suc, ◌+◌, ◌<◌, ◌≤◌}
use native.Mathlib.Omega.{arith}
use lib.ListN.{length}
use borrow.Author.Tests.{ne_eqb}
use Rattle.fields.specs.Usable.{usable_bits}
use Rattle.tree.specs.Operation.{sum}
use Rattle.tree.proofs.Cases.{lt_or_le}
use Rattle.messages.specs.Writing.{logged, bits_of_all}
use Rattle.requests.specs.declared.Request.{Request}
use Rattle.session.specs.Soundness.{limit, Sound}
use Rattle.session.specs.declared.Session.{Session}
use Rattle.session.proofs.Soundly.{sound_exactly}
use Rattle.requests.specs.Lists.{node_of}
use Rattle.mechanism.specs.Requests.{says, after}
use Rattle.mechanism.specs.Refusals.{Ruled, no_room, misfit}
use Rattle.mechanism.specs.Refusals as refusals
use Rattle.mechanism.proofs.Refusing.{request_ruled_exactly}
use Rattle.mechanism.proofs.Few.{few_messages}
use Rattle.mechanism.proofs.Fits.{messages_fit, never_misfit, sum_ranging}
use Rattle.aggregate.specs.Told.{Served}
use Rattle.aggregate.specs.inner.Acts.{served_as}
use Rattle.aggregate.specs.Serving.{refused_outcome, refused, accepted, served, refusal, served_of, log_of}
use Rattle.aggregate.specs.Promises.{RefusedExactly, RefusedKept, NeverEleven, RoomEnough}

-- what is known of an accepted request
pub record Accepted (s : Session) (r : Request) (len place : ℕ) : Type 0 where
  pub holds : Sound 2 s
  pub inside : node_of r < s.tree.count
  pub free : s.accepted < limit
  pub room : place + bits_of_all (says sum s r).log ≤ usable_bits len

module _ (s : Session) (r : Request) (len place : ℕ) where
  ruling : (n : ℕ) → refusal s r len place ≡ n → Ruled 2 s (node_of r) len place (says sum s r).log n
  ruling n = (request_ruled_exactly 2 s (node_of r) len place (says sum s r).log n).0

  pub number_is : (served_of s r len place).outcome.refusal ≡ refusal s r len place
  unfolding served_of
  number_is = go (refusal s r len place)
    where
      go : (n : ℕ) → (served n (accepted (says sum s r).sum (says sum s r).log place (after sum 2 s r)) s).outcome.refusal ≡ n
      go zero = refl
      go (suc n) = refl

  pub accepted_by : (served_of s r len place).outcome.refusal ≡ 0 → Accepted s r len place
  accepted_by e = go (ruling 0 (sym number_is ∙ e))
    where
      go : Ruled 2 s (node_of r) len place (says sum s r).log 0 → Accepted s r len place
      go (refusals.accepted a h k l f) = record { holds = (sound_exactly 2 s).0 a; inside = h; free = k; room = l }

  pub answers : (served_of s r len place).outcome.refusal ≡ 0 → served_of s r len place ≡ accepted (says sum s r).sum (says sum s r).log place (after sum 2 s r)
  unfolding served_of
  answers e = ap (λ (n : ℕ). served n (accepted (says sum s r).sum (says sum s r).log place (after sum 2 s r)) s) (sym number_is ∙ e)

  pub refuses : 0 < (served_of s r len place).outcome.refusal → served_of s r len place ≡ refused (served_of s r len place).outcome.refusal s
  unfolding served_of
  refuses h = go (refusal s r len place) h
    where
      go : (n : ℕ) → 0 < (served n (accepted (says sum s r).sum (says sum s r).log place (after sum 2 s r)) s).outcome.refusal
          → served n (accepted (says sum s r).sum (says sum s r).log place (after sum 2 s r)) s ≡ refused (served n (accepted (says sum s r).sum (says sum s r).log place (after sum 2 s r)) s).outcome.refusal s
      go zero h = absurd (omega arith)
      go (suc n) h = refl

-- what a refused request answers, whichever session it is said with
pub refused_as : (s : Session) (r : Request) (len place : ℕ) {n : ℕ} {t : Session} → served_as (refused_outcome n) t ≡ served_of s r len place → 1 ≤ n → refused n s ≡ served_of s r len place
refused_as s r len place {n} e some =
    let is : n ≡ (served_of s r len place).outcome.refusal = ap (λ (v : Served). v.outcome.refusal) e in
    ap (λ (k : ℕ). refused k s) is ∙ sym (refuses s r len place (omega arith))

module _ (s : Session) (r : Request) (log : List ℕ) (place : ℕ) where
  pub logs : (served_of s r (length log) place).outcome.refusal ≡ 0 → log_of s r log place ≡ logged log place (says sum s r).log
  unfolding log_of
  logs e = rw (sym (number_is s r (length log) place) ∙ e)

  pub logs_nothing : 0 < (served_of s r (length log) place).outcome.refusal → log_of s r log place ≡ log
  unfolding log_of
  logs_nothing h = rw (ne_eqb (refusal s r (length log) place) 0 (omega (arith, number_is s r (length log) place)))

-- a request is accepted or refused
pub verdict : {X : Type 0} (s : Session) (r : Request) (len place : ℕ) → ((served_of s r len place).outcome.refusal ≡ 0 → X) → (0 < (served_of s r len place).outcome.refusal → X) → X
verdict s r len place taken left = lt_or_le 0 (served_of s r len place).outcome.refusal left (λ h. taken (omega arith))

pub refused_exactly : RefusedExactly
refused_exactly s r len place n =
    let j = request_ruled_exactly 2 s (node_of r) len place (says sum s r).log n in
    (λ e. j.0 (sym (number_is s r len place) ∙ e), λ e. number_is s r len place ∙ j.1 e)

pub refused_kept : RefusedKept
refused_kept s r log place h = (refuses s r (length log) place h, logs_nothing s r log place h)

pub never_eleven : NeverEleven
never_eleven s r len place typed small e = go (ruling s r len place 11 (sym (number_is s r len place) ∙ e))
  where
    go : Ruled 2 s (node_of r) len place (says sum s r).log 11 → ⊥
    go (misfit a h k l f) = true≢false (sym (never_misfit (says sum s r).log (messages_fit sum 2 sum_ranging s typed ((sound_exactly 2 s).0 a) r small h)) ∙ f)

pub room_enough : RoomEnough
room_enough s r len place enough e = go (ruling s r len place 9 (sym (number_is s r len place) ∙ e))
  where
    go : Ruled 2 s (node_of r) len place (says sum s r).log 9 → ⊥
    go (no_room a h k (inl l)) = omega (arith, enough, l)
    go (no_room a h k (inr l)) = omega (arith, enough, l, (few_messages sum 2 s ((sound_exactly 2 s).0 a) r h).1)
