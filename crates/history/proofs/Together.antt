-- All ordered pairs of neighbours together: they count every message that was logged, and the bound goes through the sum.
use mathlib.Core.Path.{◌≡◌, refl, ap, ◌∙◌}
use Prim.Native.Nat.{ℕ, ◌+◌}
use lib.ListN.{length, length-append}
use Rattle.tree.specs.Operation.{sum}
use Rattle.tree.specs.Kept.{kept}
use Rattle.session.specs.Holding.{sent_of}
use Rattle.session.specs.declared.Session.{Session}
use Rattle.mechanism.specs.Pairwise.{about, Pair}
use Rattle.mechanism.proofs.Fits.{sum_ranging}
use Rattle.mechanism.proofs.Owned.{Owned}
use Rattle.history.specs.History.{History, session_after, accepted_in, logged_in, Good, all_pairs}
use Rattle.history.specs.Promises.{AllCounted, BoundedTogether}
use Rattle.history.proofs.Pairs.{pairs_same, pairs_add, pairs_most, pairs_weigh}
use Rattle.history.proofs.Throughout.{owned_all}
use Rattle.history.proofs.Histories.{trusted, came}
use Rattle.history.proofs.Beginning.{fresh_good}
use Rattle.history.proofs.Bounds.{counts_logged, logged, bounded}

-- the messages that were logged, pair by pair
pair_by_pair : (o : Session) → Good o → (h : History) → all_pairs o.tree (λ u v. length (kept (about u v) (logged_in o h))) ≡ length (logged_in o h)
pair_by_pair o g h =
    let k = came o g h in
    let owned : Owned o (logged_in o h) = rw k.logged_are (owned_all sum 2 sum_ranging o (accepted_in o h) (trusted o g) k.in_order) in
    pairs_weigh length refl length-append o (logged_in o h) owned

pub all_counted : AllCounted
all_counted o g h =
    pairs_same o.tree (sent_of (session_after o h)) (λ u v. sent_of o u v + length (kept (about u v) (logged_in o h)))
    (λ u v hu hv a. counts_logged o g h u v (record { near = hu; far = hv; edge = a }))
    ∙ pairs_add o.tree (sent_of o) (λ u v. length (kept (about u v) (logged_in o h)))
    ∙ ap (λ (k : ℕ). all_pairs o.tree (sent_of o) + k) (pair_by_pair o g h)

pub bounded_together : BoundedTogether
bounded_together o f h cost schedules =
    rw (← pair_by_pair o (fresh_good o f) h) (pairs_most o.tree (λ u v. length (kept (about u v) (logged_in o h))) cost (λ u v hu hv a.
    let p : Pair o u v = record { near = hu; far = hv; edge = a } in
    rw (← logged o f h u v p) (bounded o f h u v p (cost u v) (schedules u v p))))
