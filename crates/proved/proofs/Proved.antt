-- The cases marked P hold by computation; that a run's log reads as what was said is `run-logged`.
use mathlib.Core.Path.{◌≡◌, refl, ap, ◌∙◌}
use mathlib.Core.List.{List, [], ◌∷◌}
use Prim.Native.Nat.{ℕ}
use native.Mathlib.Omega.{arith}
use lib.IntN.{ℤ, pos}
use lib.ListN.{replicate}
use lib.Count.{count_leading_zeros}
use Rattle.aggregate.specs.Serving.{served_of, log_of}
use Rattle.aggregate.specs.Running as running
use Rattle.aggregate.specs.declared.Totals.{Totals}
use Rattle.aggregate.specs.Told.{Ran}
use Rattle.aggregate.proofs.Listing.{ran_is, answers_are, all_done}
use Rattle.aggregate.proofs.Speaking.{run_logged}
use Rattle.fields.specs.Bits.{weight, digit, patch, bit, put_bit}
use Rattle.fields.specs.Fields.{field, put_field}
use Rattle.twos.specs.Twos.{signed}
use Rattle.mechanism.specs.Combining.{heard, step_if, sofar, ask}
use Rattle.mechanism.specs.Spreading.{total, sends, spread}
use Rattle.mechanism.specs.Applying.{hit, cell, put, applied, each, up_raised, down_raised, raised}
use Rattle.mechanism.specs.Requests.{combines, writes, after_combine, after_write}
use Rattle.mechanism.specs.Refusals as refusals
use Rattle.messages.specs.Records.{kind_of, width_of, record_of}
use Rattle.messages.specs.Reading.{message_of, message_at, entry_of, entry_at, messages_from}
use Rattle.messages.specs.Writing.{log_after, logged, bits_of_all}
use Rattle.messages.specs.declared.Message.{Message}
use Rattle.messages.specs.declared.Message.TheVariants.{Probe, Response, Update, Release}
use Rattle.messages.proofs.Listing.{messages_of_read}
use Rattle.mechanism.proofs.Starts.{fresh_right}
use Rattle.packed.specs.Parts.{ends}
use Rattle.requests.specs.Reading as lists
use Rattle.session.specs.Holding.{pair_at}
use Rattle.session.specs.Starting.{fresh_of}
use Rattle.session.specs.declared.Session.{Session}
use Rattle.session.specs.Soundness.{in_limits, sound}
use Rattle.table.specs.Layout.{long, parent_place}
use Rattle.table.specs.Reading.{nodes_fault, refusal_of, parents_of, reading_of}
use Rattle.tree.specs.Every.{every}
use Rattle.tree.specs.Parents.{entry_in_rule, in_rule}
use Rattle.tree.specs.Operation.{sum}
use Rattle.tree.specs.Ranges.{in_range}
use Rattle.tree.specs.Sides.{climb, below}
use Rattle.tree.specs.Turns.{turn, joined}
use Rattle.proved.specs.Proved.{Holding, runs, empty, replies, end, held, outcome, grown, path_list, path_in_one_call, cases, AllHold}

-- ---- the path's list in one call

abbrev fresh : Session
fresh = fresh_of (grown (0 ∷ 0 ∷ 1 ∷ []))

abbrev places : List ℤ
places = replicate 3 (pos 0)

abbrev ended : Ran
ended = running.ran_of fresh path_list places (empty 86) 0

abbrev end_of_it : running.Ended
end_of_it = running.end_of fresh path_list places (empty 86) 0

-- how it ended: the refusal, the totals, the answers, and what is held
abbrev Seen : Type 0
Seen = ℕ × Totals × List ℤ × Holding

abbrev seen : running.Ended → Seen
seen e = (e.refusal, e.reached.totals, e.reached.answers, held e.reached.session)

-- what is computed of it: the list is begun, and how it ended
record Computed : Type 0 where
  begun : running.list_refusal fresh path_list 3 ≡ 0
  seen_is : seen end_of_it
      ≡ (
        0,
        record { requests = 6; answers = 3; messages = 16; next = 688 },
        pos 0 ∷ pos 5 ∷ pos 9 ∷ [],
        record { up_leases = 0 ∷ 2 ∷ 2 ∷ []; up_messages = 0 ∷ 8 ∷ 8 ∷ []; down_leases = 0 ∷ 0 ∷ 0 ∷ []; down_messages = 0 ∷ 0 ∷ 0 ∷ [] },
      )

computed : Computed
unfolding count_leading_zeros weight digit patch bit put_bit field put_field signed kind_of width_of record_of message_of message_at entry_of entry_at log_after ends long parent_place nodes_fault refusal_of parents_of reading_of lists.request_at lists.next_place lists.place_of lists.requests_from lists.combines_to lists.refusal_of lists.judged_of replies end served_of log_of logged messages_from running.spoken_in running.done running.runs running.list_refusal running.ran_of running.answers_of running.run_log_of heard step_if sofar ask total sends spread hit cell put applied each up_raised down_raised raised combines writes after_combine after_write refusals.all_fit refusals.refusal_of bits_of_all pair_at in_limits sound every entry_in_rule in_rule in_range climb below turn joined
computed = record { begun = refl; seen_is = refl }

spoken_is : running.spoken_of fresh path_list places (empty 86) 0
    ≡ Probe 0 1 ∷ Probe 1 2 ∷ Response 2 1 (pos 0) ∷ Response 1 0 (pos 0) ∷ Update 2 1 (pos 5) ∷ Update 1 0 (pos 5) ∷ Update 2 1 (pos 7) ∷ Update 1 0 (pos 7)
    ∷ Update 2 1 (pos 9) ∷ Update 1 0 (pos 9) ∷ Release 0 1 ∷ Release 1 2 ∷ Probe 0 1 ∷ Probe 1 2 ∷ Response 2 1 (pos 9) ∷ Response 1 0 (pos 9) ∷ []
unfolding count_leading_zeros weight digit patch bit put_bit field put_field signed kind_of width_of record_of message_of message_at entry_of entry_at log_after ends long parent_place nodes_fault refusal_of parents_of reading_of lists.request_at lists.next_place lists.place_of lists.requests_from lists.combines_to lists.refusal_of lists.judged_of replies end served_of log_of logged messages_from running.spoken_in running.done running.runs running.list_refusal running.ran_of running.answers_of running.run_log_of heard step_if sofar ask total sends spread hit cell put applied each up_raised down_raised raised combines writes after_combine after_write refusals.all_fit refusals.refusal_of bits_of_all pair_at in_limits sound every entry_in_rule in_rule in_range climb below turn joined
spoken_is = refl

ended_is : ended ≡ running.ended_as end_of_it.refusal end_of_it.reached.totals end_of_it.reached.session
ended_is = ran_is fresh path_list places (empty 86) 0 computed.begun

refusal_is : ended.refusal ≡ 0
refusal_is = ap (λ (r : Ran). r.refusal) ended_is ∙ ap (λ (t : Seen). t.0) computed.seen_is

totals_are : ended.totals ≡ record { requests = 6; answers = 3; messages = 16; next = 688 }
totals_are = ap (λ (r : Ran). r.totals) ended_is ∙ ap (λ (t : Seen). t.1) computed.seen_is

reads_as : messages_from ended.totals.next (running.run_log_of fresh path_list places (empty 86) 0) 0 ended.totals.next ≡ running.spoken_of fresh path_list places (empty 86) 0
reads_as =
    messages_of_read _ _ _ _
    (run_logged fresh path_list places (empty 86) 0 (fresh_right sum (grown (0 ∷ 0 ∷ 1 ∷ [])) refl).0 (rw (ap (λ (t : Totals). t.requests) totals_are) (omega arith))).0

same : (a a' b b' : ℕ) (c c' : Totals) (d d' : List ℤ) (e e' : List Message) (f f' : Holding) → a ≡ a' → b ≡ b' → c ≡ c' → d ≡ d' → e ≡ e' → f ≡ f' → runs a b c d e f ≡ runs a' b' c' d' e' f'
same a a' b b' c c' d d' e e' f f' p q r s t u = rw (p, q, r, s, t, u)

one_call_holds : outcome path_in_one_call.input ≡ path_in_one_call.output
one_call_holds =
    same _ _ _ _ _ _ _ _ _ _ _ _
    refusal_is
    (all_done fresh path_list places (empty 86) 0 refusal_is).0
    totals_are
    (answers_are fresh path_list places (empty 86) 0 computed.begun ∙ ap (λ (t : Seen). t.2) computed.seen_is)
    (reads_as ∙ spoken_is)
    (ap (λ (r : Ran). held r.session) ended_is ∙ ap (λ (t : Seen). t.3) computed.seen_is)

-- ---- the table

pub all_hold : AllHold
unfolding cases count_leading_zeros weight digit patch bit put_bit field put_field signed kind_of width_of record_of message_of message_at entry_of entry_at log_after ends long parent_place nodes_fault refusal_of parents_of reading_of lists.request_at lists.next_place lists.place_of lists.requests_from lists.combines_to lists.refusal_of lists.judged_of replies end served_of log_of logged messages_from running.spoken_in running.done running.runs running.list_refusal running.ran_of running.answers_of running.run_log_of heard step_if sofar ask total sends spread hit cell put applied each up_raised down_raised raised combines writes after_combine after_write refusals.all_fit refusals.refusal_of bits_of_all pair_at in_limits sound every entry_in_rule in_rule in_range climb below turn joined
all_hold = (refl, (refl, (refl, (refl, (refl, (refl, (refl, (refl, (refl, (refl, (refl, (refl, (refl, (refl, (refl, (refl, (refl, (refl, (refl, (one_call_holds, tt))))))))))))))))))))
