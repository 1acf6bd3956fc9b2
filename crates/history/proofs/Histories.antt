-- A history comes to its accepted requests: they alone decide the session, the answers and the messages.
use mathlib.Core.Path.{◌≡◌, refl, sym, ap, ap₂, ◌∙◌}
use mathlib.Core.List.{List, [], ◌∷◌, ◌++◌}
use lib.IntN.{ℤ}
use Rattle.tree.specs.Operation.{sum}
use Rattle.messages.specs.declared.Message.{Message}
use Rattle.requests.specs.declared.Request.{Request}
use Rattle.session.specs.Holding.{value_of}
use Rattle.session.specs.declared.Session.{Session}
use Rattle.mechanism.proofs.Fits.{sum_ranging, sum_plain}
use Rattle.history.specs.History.{result, History, session_after, gathered, accepted_in, answers_in, logged_in, Good}
use Rattle.history.specs.Promises.{StaysGood, AcceptedDecide, SessionHolds}
use Rattle.history.proofs.Succession.{Trusted, after_all, answers_to, spoken_by, AllInOrder}
use Rattle.history.proofs.Throughout.{after_append, answers_append, spoken_append, in_order_append, tree_all, accepted_all, trusted_all, value_all}
use Rattle.history.proofs.Calls.{comes}

pub trusted : (s : Session) → Good s → Trusted sum 2 s
trusted s g = record { typed = g.typed; holds = g.holds; plain = sum_plain s; right = g.right }

good : (s : Session) → Trusted sum 2 s → Good s
good s f = record { typed = f.typed; holds = f.holds; right = f.right }

pub record Came (o : Session) (h : History) : Type 0 where
  pub in_order : AllInOrder sum 2 o (accepted_in o h)
  pub session_is : session_after o h ≡ after_all sum 2 o (accepted_in o h)
  pub answers_are : answers_in o h ≡ answers_to sum 2 o (accepted_in o h)
  pub logged_are : logged_in o h ≡ spoken_by sum 2 o (accepted_in o h)

-- a good session after requests in order is good
good_after : (s s' : Session) (l : List Request) → Good s → AllInOrder sum 2 s l → s' ≡ after_all sum 2 s l → Good s'
good_after s s' l g h e = rw e (good (after_all sum 2 s l) (trusted_all sum 2 sum_ranging s l (trusted s g) h))

-- the same requests in order from an equal session
in_order_from : (s s' : Session) (l : List Request) → s ≡ s' → AllInOrder sum 2 s l → AllInOrder sum 2 s' l
in_order_from s s' l e h = rw (← e) h

pub came : (o : Session) → Good o → (h : History) → Came o h
unfolding session_after gathered after_all answers_to spoken_by
came o g [] = record { in_order = tt; session_is = refl; answers_are = refl; logged_are = refl }
came o g (c ∷ h) =
    let k = comes o g c in
    let s = (result o c).session in
    let l = (result o c).accepted in
    let m = accepted_in s h in
    let e = k.session_is in
    let rest = came s (good_after o s l g k.in_order e) h in
    record {
      in_order = in_order_append sum 2 o l m k.in_order (in_order_from s (after_all sum 2 o l) m e rest.in_order);
      session_is = rest.session_is ∙ ap (λ (s : Session). after_all sum 2 s m) e ∙ sym (after_append sum 2 o l m);
      answers_are = ap₂ (λ (a b : List ℤ). a ++ b) k.answers_are (rest.answers_are ∙ ap (λ (s : Session). answers_to sum 2 s m) e) ∙ sym (answers_append sum 2 o l m);
      logged_are = ap₂ (λ (a b : List Message). a ++ b) k.logged_are (rest.logged_are ∙ ap (λ (s : Session). spoken_by sum 2 s m) e) ∙ sym (spoken_append sum 2 o l m);
    }

pub stays_good : StaysGood
stays_good o g h = let k = came o g h in good_after o (session_after o h) (accepted_in o h) g k.in_order k.session_is

pub accepted_decide : AcceptedDecide
accepted_decide o g h k e =
    let a = came o g h in
    let b = came o g k in (
      a.session_is ∙ ap (after_all sum 2 o) e ∙ sym b.session_is,
      a.answers_are ∙ ap (answers_to sum 2 o) e ∙ sym b.answers_are,
      a.logged_are ∙ ap (spoken_by sum 2 o) e ∙ sym b.logged_are,
    )

pub session_holds : SessionHolds
session_holds o g h =
    let k = came o g h in
    let l = accepted_in o h in (
      ap (λ (s : Session). s.tree) k.session_is ∙ tree_all sum 2 o l,
      ap (λ (s : Session). s.accepted) k.session_is ∙ accepted_all sum 2 o l,
      λ u. ap (λ (s : Session). value_of s u) k.session_is ∙ value_all sum 2 sum_ranging o l (trusted o g) k.in_order u,
    )
