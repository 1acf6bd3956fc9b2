-- Each accepted combine of a history answers the sum of what was last written at every node.
use mathlib.Core.Path.{ap, ◌∙◌}
use mathlib.Core.List.{List}
use lib.IntN.{ℤ, pos}
use lib.ListN.{length, get_or}
use Rattle.tree.specs.Operation.{sum}
use Rattle.tree.proofs.Folds.{same}
use Rattle.requests.specs.Lists.{combines_in}
use Rattle.session.specs.Holding.{value_of}
use Rattle.mechanism.proofs.Fits.{sum_ranging}
use Rattle.history.specs.History.{accepted_in, last_written}
use Rattle.history.specs.Promises.{EachAnswered, SumsFrom, Sums}
use Rattle.history.proofs.Succession.{answers_to}
use Rattle.history.proofs.Answering.{answers_length, answer_sums}
use Rattle.history.proofs.Histories.{trusted, came}
use Rattle.history.proofs.Beginning.{fresh_good, no_value}

pub each_answered : EachAnswered
each_answered o g h = ap length (came o g h).answers_are ∙ answers_length sum 2 o (accepted_in o h)

pub sums_from : SumsFrom
sums_from o g h earlier later x e =
    let k = came o g h in
    ap (λ (l : List ℤ). get_or l (combines_in earlier) (pos 0)) (k.answers_are ∙ ap (answers_to sum 2 o) e)
    ∙ answer_sums sum 2 sum_ranging o earlier later x (trusted o g) (rw e at k.in_order)

pub sums : Sums
sums o f h earlier later x e =
    sums_from o (fresh_good o f) h earlier later x e
    ∙ same sum (λ u. last_written u (value_of o u) earlier) (λ u. last_written u (pos 0) earlier) o.tree.count (λ u l. ap (λ (z : ℤ). last_written u z earlier) (no_value o f u))
