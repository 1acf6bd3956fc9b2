-- With which numbers a list ends: those of the whole list, or those of a request that a sound session refuses.
use mathlib.Core.Path.{◌≡◌, refl, sym, ◌∙◌}
use mathlib.Core.Bool.{true≢false}
use mathlib.Core.Logic.{inl, inr}
use mathlib.Core.List.{List}
use Prim.Native.Nat.{ℕ, ◌<◌}
use native.Mathlib.Omega.{arith}
use lib.ListN.{length}
use Rattle.tree.specs.Operation.{sum}
use Rattle.requests.specs.Format.{no_count, bad_count, no_request, left_over}
use Rattle.requests.specs.Format as format
use Rattle.requests.specs.Lists.{node_of, Small, AllSized}
use Rattle.requests.specs.Reading.{requests_of}
use Rattle.requests.specs.declared.Request.{Request}
use Rattle.requests.proofs.Runs.{read_sized}
use Rattle.session.specs.Holding.{Typed}
use Rattle.session.specs.Soundness.{Sound}
use Rattle.session.specs.declared.Session.{Session}
use Rattle.session.proofs.Soundly.{sound_exactly}
use Rattle.mechanism.specs.Requests.{says}
use Rattle.mechanism.specs.Refusals.{Ruled, no_node, no_more, no_room, misfit}
use Rattle.mechanism.specs.Refusals as refusals
use Rattle.aggregate.specs.Serving.{served_of}
use Rattle.aggregate.specs.Running.{Running, start, done, Whole, unread, few_places, unsound, starts, Serves, all_done, stopped, accepted, OfWhole, OfStop}
use Rattle.aggregate.specs.Promises.{WholeNumbers, StopNumbers}
use Rattle.refusal.specs.Numbers.{number}
use Rattle.refusal.specs.declared.Refusal.{Refusal}
use Rattle.refusal.proofs.Numbers.{numbers_within}
use Rattle.aggregate.proofs.Verdicts.{refused_exactly, never_eleven}
use Rattle.aggregate.proofs.Wholly.{runnable_by}
use Rattle.aggregate.proofs.Listing.{whole_exactly, one_by_one}
use Rattle.aggregate.proofs.Lasting.{fine_next}

unread_with : (list : List ℕ) (n : ℕ) → format.Ruled list n → 0 < n → OfWhole n
unread_with list n (no_count h) some = inl refl
unread_with list n (bad_count h l) some = inr (inr (inl refl))
unread_with list n (no_request m k c h l j) some = inl refl
unread_with list n (left_over m c h l) some = inr (inl refl)
unread_with list n (format.whole m c h l) some = absurd (omega (arith, some))

pub whole_numbers : WholeNumbers
whole_numbers s list places n e some = go n ((whole_exactly s list places n).0 e) some
  where
    go : (n : ℕ) → Whole s list places n → 0 < n → OfWhole n
    go n (unread m h r) some = unread_with list m r h
    go n (few_places r h) some = inr (inr (inr (inr refl)))
    go n (unsound r h i) some = inr (inr (inr (inl refl)))
    go n (starts r h i) some = absurd (omega (arith, some))

-- a sound session refuses a request with 7, 8 or 9
refused_with_lem : (s : Session) (r : Request) (len place n : ℕ) → Typed s → Sound 2 s → Small r → (served_of s r len place).outcome.refusal ≡ n → 0 < n → OfStop n
refused_with_lem s r len place n typed holds h e some = go n ((refused_exactly s r len place n).0 e) some
  where
    go : (n : ℕ) → Ruled 2 s (node_of r) len place (says sum s r).log n → 0 < n → OfStop n
    go n (refusals.unsound a) some = absurd (true≢false (sym ((sound_exactly 2 s).1 holds) ∙ a))
    go n (no_node a i) some = inl refl
    go n (no_more a i k) some = inr (inl refl)
    go n (no_room a i k l) some = inr (inr refl)
    go n (misfit a i k l f) some = absurd (never_eleven s r len place typed h ((refused_exactly s r len place 11).1 (misfit a i k l f)))
    go n (refusals.accepted a i k l f) some = absurd (omega (arith, some))

-- the session that has come to the request that is refused is sound
stopped_with : (n : ℕ) (o' : Running) (rs : List Request) (o : Running) → AllSized rs → Typed o.session → Sound 2 o.session → 0 < n → Serves n o' rs o → OfStop n
stopped_with n o' rs o sized typed holds some (all_done e) = absurd (omega (arith, some, e))
stopped_with n o' rs o sized typed holds some (stopped r l h e) = refused_with_lem o.session r (length o.log) o.totals.next n typed holds sized.0.1 e some
stopped_with n o' rs o sized typed holds some (accepted r l q e rest) =
    let f = fine_next r o sized.0 (typed, holds) in stopped_with n o' l (done r o) sized.1 f.0 f.1 some rest

pub stop_numbers : StopNumbers
stop_numbers s list answers log place n typed begun e some =
    stopped_with n _ (requests_of list) (start s answers log place) (read_sized list) typed (runnable_by s list (length answers) begun).holds some (rw e at (one_by_one s list answers log place begun))

-- what bears the number of a refusal is not 0
pub never_zero : {A : Type 0} (r : Refusal) {n : ℕ} → n ≡ number r → n ≡ 0 → A
never_zero r e z = absurd (omega (arith, e, z, (numbers_within r).0))
