-- What an accepted request logs reads back as its messages, and all else of the log is kept.
use mathlib.Core.Path.{refl, sym, ap, ◌∙◌}
use native.Mathlib.Omega.{arith}
use lib.ListN.{length}
use Rattle.tree.specs.Operation.{sum}
use Rattle.messages.proofs.Logs.{log_length_kept, log_outside_kept}
use Rattle.messages.proofs.Listing.{messages_of_read}
use Rattle.mechanism.specs.Requests.{says}
use Rattle.mechanism.proofs.Few.{few_messages}
use Rattle.mechanism.proofs.Fits.{log_is_request, sum_ranging}
use Rattle.aggregate.specs.Promises.{LoggedExactly, RequestOutsideKept, RequestLengthKept, AtMost510}
use Rattle.aggregate.proofs.Verdicts.{accepted_by, answers, refuses, logs, logs_nothing, verdict}

pub logged_exactly : LoggedExactly
logged_exactly s r log place typed small e =
    let a = accepted_by s r (length log) place e in
    let reads = log_is_request sum 2 sum_ranging s typed a.holds r small a.inside log place a.room in
    rw (answers s r (length log) place e, logs s r log place e) (reads, refl, sym (ap length (messages_of_read _ place _ (says sum s r).log reads)))

pub request_length_kept : RequestLengthKept
request_length_kept s r log place = verdict s r (length log) place
    (λ e. ap length (logs s r log place e) ∙ log_length_kept log place (says sum s r).log)
    (λ h. ap length (logs_nothing s r log place h))

pub request_outside_kept : RequestOutsideKept
request_outside_kept s r log place k h = verdict s r (length log) place
    (λ e. rw (logs s r log place e) (log_outside_kept log place (says sum s r).log k (rw (answers s r (length log) place e) at h)))
    (λ l. rw (logs_nothing s r log place l))

pub at_most_510 : AtMost510
at_most_510 s r len place = verdict s r len place
    (λ e. let a = accepted_by s r len place e in let f = few_messages sum 2 s a.holds r a.inside in rw (answers s r len place e) (f.0, omega (arith, f.1)))
    (λ h. rw (refuses s r len place h) (omega arith, omega arith))
