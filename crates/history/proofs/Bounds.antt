-- Each ordered pair of neighbours through a history: its number, its messages, and how few they are.
use mathlib.Core.Path.{◌≡◌, sym, ap, ◌∙◌}
use Prim.Native.Nat.{ℕ, ◌+◌}
use native.Mathlib.Omega.{arith}
use lib.ListN.{length}
use Rattle.tree.specs.Operation.{sum}
use Rattle.tree.specs.Kept.{kept}
use Rattle.rule.specs.Pair.{number_after, messages}
use Rattle.rule.proofs.Bound.{bound, five_halves}
use Rattle.rule.proofs.Configurations.{configured}
use Rattle.session.specs.Holding.{lease_of, sent_of}
use Rattle.session.specs.declared.Session.{Session}
use Rattle.mechanism.specs.Pairwise.{about, Pair}
use Rattle.mechanism.proofs.Fits.{sum_ranging}
use Rattle.history.specs.History.{History, session_after, accepted_in, logged_in, Good, own_of}
use Rattle.history.specs.Promises.{NumbersRuled, CountsRuled, CountsLogged, BoundedFrom, NumbersConfigured, Bounded, Logged}
use Rattle.history.proofs.Owning.{number_all, sent_all, spoken_all}
use Rattle.history.proofs.Histories.{trusted, came}
use Rattle.history.proofs.Beginning.{fresh_good, no_lease, no_messages}

pub numbers_ruled : NumbersRuled
numbers_ruled o g h u v p =
    let k = came o g h in
    ap (λ (s : Session). lease_of s u v) k.session_is ∙ number_all sum 2 sum_ranging u v o (accepted_in o h) (trusted o g) k.in_order p

pub counts_ruled : CountsRuled
counts_ruled o g h u v p =
    let k = came o g h in
    ap (λ (s : Session). sent_of s u v) k.session_is ∙ sent_all sum 2 sum_ranging u v o (accepted_in o h) (trusted o g) k.in_order p

-- as many messages are logged for the pair
logged_ruled : (o : Session) → Good o → (h : History) (u v : ℕ) → Pair o u v → length (kept (about u v) (logged_in o h)) ≡ messages 2 (lease_of o u v) (own_of o.tree u v (accepted_in o h))
logged_ruled o g h u v p =
    let k = came o g h in
    ap (λ ms. length (kept (about u v) ms)) k.logged_are ∙ spoken_all sum 2 sum_ranging u v o (accepted_in o h) (trusted o g) k.in_order p

pub counts_logged : CountsLogged
counts_logged o g h u v p = counts_ruled o g h u v p ∙ ap (λ (k : ℕ). sent_of o u v + k) (sym (logged_ruled o g h u v p))

pub bounded_from : BoundedFrom
bounded_from o g h u v p m c d = omega (arith, counts_ruled o g h u v p, bound m (lease_of o u v) (own_of o.tree u v (accepted_in o h)) c d)

-- ---- from a fresh session on

pub numbers_configured : NumbersConfigured
numbers_configured o f h u v p =
    let l = own_of o.tree u v (accepted_in o h) in
    (configured l (lease_of (session_after o h) u v)).1 (ap (λ (k : ℕ). number_after 2 k l) (sym (no_lease o f u v)) ∙ sym (numbers_ruled o (fresh_good o f) h u v p))

pub logged : Logged
logged o f h u v p = omega (arith, counts_logged o (fresh_good o f) h u v p, no_messages o f u v)

pub bounded : Bounded
bounded o f h u v p c d =
    let l = own_of o.tree u v (accepted_in o h) in
    omega (arith, counts_ruled o (fresh_good o f) h u v p, no_messages o f u v, ap (λ (k : ℕ). messages 2 k l) (no_lease o f u v), five_halves l c d)
