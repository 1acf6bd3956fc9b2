-- Requests of a list that are all done: each is in order when its turn comes, and session, messages and answers are those of the requests.
use mathlib.Core.Path.{◌≡◌, refl, sym, ap, ◌∙◌}
use mathlib.Core.List.{List, [], ◌∷◌, ◌++◌, append-nil, append_assoc}
use Prim.Native.Nat.{ℕ, suc, ◌+◌, ◌≤◌}
use native.Mathlib.Omega.{arith}
use lib.IntN.{ℤ}
use lib.ListN.{length, take}
use Rattle.tree.specs.Operation.{sum}
use Rattle.messages.specs.declared.Message.{Message}
use Rattle.requests.specs.Lists.{Small, one_if_combine, combines_in, Sized, AllSized}
use Rattle.requests.specs.declared.Request.{Request}
use Rattle.requests.specs.declared.Request.TheVariants.{Combine, Write}
use Rattle.session.specs.declared.Session.{Session}
use Rattle.mechanism.specs.Requests.{says, after}
use Rattle.mechanism.proofs.Fits.{sum_written}
use Rattle.aggregate.specs.Serving.{served_of}
use Rattle.aggregate.specs.Running.{Running, in_turn, stored, done, Serves, all_done, stopped, accepted, spoken_in}
use Rattle.aggregate.specs.Told.{Served}
use Rattle.aggregate.proofs.Verdicts.{accepted_by, answers}
use Rattle.aggregate.proofs.Runs.{stored_length}
use Rattle.history.specs.History.{answer_of}
use Rattle.history.proofs.Lists.{take_set}
use Rattle.history.proofs.Succession.{InOrder, after_all, answers_to, spoken_by, AllInOrder}

-- what is known of an accepted request when its turn comes
pub in_order_by : (s : Session) (r : Request) (len place : ℕ) → Small r → (served_of s r len place).outcome.refusal ≡ 0 → InOrder sum s r
in_order_by s r len place h e = let a = accepted_by s r len place e in record { inside = a.inside; small = h; plainly = sum_written r; free = a.free }

-- the answer of a request goes behind those that stand in the first answer places
told_next : (r : Request) (z : ℤ) (k : ℕ) (places rest : List ℤ) → k + one_if_combine r ≤ length places
    → take (k + one_if_combine r) (stored r z k places) ++ rest ≡ take k places ++ (answer_of r z ++ rest)
told_next (Combine x) z k places rest h =
    let e : k + 1 ≡ suc k = omega arith in
    rw (e, take_set places k z (omega (arith, h))) (append_assoc (take k places) (z ∷ []) rest)
told_next (Write x v) z k places rest h = let e : k + 0 ≡ k = omega arith in rw e

-- requests that are all done lead from o to o'
pub record Went (o o' : Running) (l : List Request) : Type 0 where
  pub in_order : AllInOrder sum 2 o.session l
  pub session_is : o'.session ≡ after_all sum 2 o.session l
  pub spoken : spoken_in l o ≡ spoken_by sum 2 o.session l
  pub told : o.totals.answers + combines_in l ≤ length o.answers
      → take o'.totals.answers o'.answers ≡ take o.totals.answers o.answers ++ answers_to sum 2 o.session l

went_none : (o : Running) → Went o o []
unfolding after_all answers_to spoken_by spoken_in
went_none o = record { in_order = tt; session_is = refl; spoken = refl; told = λ h. sym (append-nil (take o.totals.answers o.answers)) }

went_more : (r : Request) (l : List Request) (o o' : Running) → Sized r → (in_turn r o).outcome.refusal ≡ 0 → Went (done r o) o' l → Went o o' (r ∷ l)
unfolding after_all answers_to spoken_by spoken_in combines_in done
went_more r l o o' sized e w =
    let s = o.session in
    let a = answers s r (length o.log) o.totals.next e in
    let f : (in_turn r o).session ≡ after sum 2 s r = ap (λ (d : Served). d.session) a in
    let z = (in_turn r o).outcome.answer in
    let g : z ≡ (says sum s r).sum = ap (λ (d : Served). d.outcome.answer) a in
    let k = o.totals.answers in
    let rest = answers_to sum 2 (after sum 2 s r) l in
    record {
      in_order = (in_order_by s r (length o.log) o.totals.next sized.1 e, rw f at w.in_order);
      session_is = w.session_is ∙ ap (λ (t : Session). after_all sum 2 t l) f;
      spoken = rw e (ap (λ (ms : List Message). (says sum s r).log ++ ms) (w.spoken ∙ ap (λ (t : Session). spoken_by sum 2 t l) f));
      told = λ h.
          w.told (omega (arith, h, stored_length r z k o.answers))
          ∙ ap (λ (t : Session). take (k + one_if_combine r) (stored r z k o.answers) ++ answers_to sum 2 t l) f
          ∙ told_next r z k o.answers rest (omega (arith, h))
          ∙ ap (λ (y : ℤ). take k o.answers ++ (answer_of r y ++ rest)) g;
    }

pub went : (o' : Running) (l : List Request) (o : Running) → AllSized l → Serves 0 o' l o → Went o o' l
went o' l o sized (all_done e) = went_none o
went o' l o sized (stopped r rs h e) = absurd (omega (arith, h))
went o' l o sized (accepted r rs q e rest) = went_more r rs o o' sized.0 e (went o' rs (done r o) sized.1 rest)
