-- A list underway: what is still due comes to what the whole list comes to.
use mathlib.Core.Path.{◌≡◌, refl, sym, ap, ◌∙◌}
use mathlib.Core.Logic.{◌≢◌}
use mathlib.Core.List.{List, [], ◌∷◌}
use Prim.Native.Nat.{ℕ, ◌+◌, ◌*◌, ◌<◌, ◌≤◌}
use native.Mathlib.Omega.{arith}
use lib.IntN.{ℤ}
use lib.ListN.{length}
use borrow.Author.Tests.{eq-eqb, ne_eqb}
use Rattle.requests.specs.Lists.{Sized, AllSized, one_if_combine, combines_in}
use Rattle.requests.specs.Reading.{item_at, told, Hands, requests_of}
use Rattle.requests.specs.declared.Request.{Request}
use Rattle.requests.specs.declared.Request.TheVariants.{Combine, Write}
use Rattle.std.specs.Prelude.{Ok, Err}
use Rattle.refusal.specs.declared.Refusal.{Refusal}
use Rattle.refusal.proofs.Numbers.{numbers_within}
use Rattle.requests.proofs.Items.{item_exactly}
use Rattle.requests.proofs.Runs.{read_sized, counts_right}
use Rattle.requests.proofs.Handing.{handed_out}
use Rattle.requests.proofs.Walk.{one_at_most}
use Rattle.session.specs.Holding.{Typed}
use Rattle.session.specs.Soundness.{Sound}
use Rattle.session.specs.declared.Session.{Session}
use Rattle.aggregate.specs.Serving.{log_of}
use Rattle.aggregate.specs.Running.{Running, running, start, in_turn, stored, added, done, runs, list_refusal, end_of}
use Rattle.aggregate.specs.inner.Turns.{Starting, HasPlace, Addable}
use Rattle.aggregate.specs.Told.{Served}
use Rattle.aggregate.specs.declared.Totals.{Totals}
use Rattle.aggregate.proofs.Verdicts.{refuses, logs_nothing}
use Rattle.aggregate.proofs.Logging.{request_length_kept, at_most_510}
use Rattle.aggregate.proofs.Keeping.{sessions_sound, served_rooted}
use Rattle.aggregate.proofs.Runs.{stored_length}
use Rattle.aggregate.proofs.Wholly.{runnable_by}

-- ---- what a list and a request of it bring

placed : (r : Request) (k places : ℕ) → k + one_if_combine r ≤ places → HasPlace r k places
placed (Combine x) k places h = omega arith
placed (Write x z) k places h = tt

-- what is due begins at a place of the list, and can be served, stored and counted
pub record Underway (s : Session) (list : List ℕ) (answers : List ℤ) (log : List ℕ) (place count at : ℕ) (o : Running) : Type 0 where
  pub accepted : list_refusal s list (length answers) ≡ 0
  pub due : List Request
  pub hands : Hands list at due
  pub same : runs due o ≡ end_of s list answers log place
  pub left : o.totals.requests + length due ≡ count
  pub few : count ≤ 4096
  pub rooted : o.session.tree ≡ s.tree
  pub typed : Typed o.session
  pub holds : Sound 2 o.session
  pub sized : AllSized due
  pub places : o.totals.answers + combines_in due ≤ length o.answers
  pub answers_few : o.totals.answers ≤ o.totals.requests
  pub messages_few : o.totals.messages ≤ 510 * o.totals.requests
  pub answers_long : length o.answers ≡ length answers
  pub log_long : length o.log ≡ length log

pub underway_first : (s : Session) (list : List ℕ) (answers : List ℤ) (log : List ℕ) (place count first : ℕ) → Typed s → Starting s list (length answers) count first
    → Underway s list answers log place count first (start s answers log place)
underway_first s list answers log place count first typed b =
    let a = runnable_by s list (length answers) b.accepted in
    let c = counts_right list a.read in
    record {
      accepted = b.accepted;
      due = requests_of list;
      hands = rw b.begins (handed_out list a.read);
      same = refl;
      left = omega (arith, b.counted, c.0);
      few = omega (arith, b.counted, a.few);
      rooted = refl;
      typed = typed;
      holds = a.holds;
      sized = read_sized list;
      places = omega (arith, a.enough, c.1);
      answers_few = omega arith;
      messages_few = omega arith;
      answers_long = refl;
      log_long = refl;
    }

module _ {s : Session} {list : List ℕ} {answers : List ℤ} {log : List ℕ} {place count at : ℕ} {o : Running} (u : Underway s list answers log place count at o) where
  pub ends_all : count ≤ o.totals.requests → record { refusal = 0; reached = o } ≡ end_of s list answers log place
  ends_all h = go u.due u.left u.same
    where
      go : (due : List Request) → o.totals.requests + length due ≡ count → runs due o ≡ end_of s list answers log place → record { refusal = 0; reached = o } ≡ end_of s list answers log place
      go [] l same = unfold runs in same
      go (r ∷ rs) l same = absurd (omega (arith, h))

  -- ---- the next request

  module _ (l : o.totals.requests < count) where
    -- the first that is due stands there, and the rest behind it
    ahead : (r : Request) × (rest : List Request) × (next : ℕ) × (u.due ≡ r ∷ rest) × (told (item_at list at) ≡ (0, (r, next) ∷ [])) × Hands list next rest
    ahead = go u.due u.left u.hands
      where
        go : (due : List Request) → o.totals.requests + length due ≡ count → Hands list at due
            → (r : Request) × (rest : List Request) × (next : ℕ) × (due ≡ r ∷ rest) × (told (item_at list at) ≡ (0, (r, next) ∷ [])) × Hands list next rest
        go [] k h = absurd (omega (arith, l))
        go (r ∷ rest) k h = (r, rest, h.0, refl, h.1, h.2)

    abbrev rest : List Request
    rest = ahead.1

    pub never_short : (r : Refusal) → item_at list at ≡ Err r → ⊥
    never_short r e = omega (arith, ap (λ (t : ℕ × List (Request × ℕ)). t.0) (sym ahead.4 ∙ ap told e), (numbers_within r).0)

    pub addable : (r : Request) {v : Served} {k : ℕ} → v ≡ in_turn r o → k ≡ one_if_combine r → Addable o.totals k v.outcome
    addable r served e =
        rw (served, e)
        (record {
          few = omega (arith, l, u.few);
          answers_few = u.answers_few;
          one = one_at_most r;
          messages_few = u.messages_few;
          at_most_510 = (at_most_510 o.session r (length o.log) o.totals.next).0;
        })

    module _ {r : Request} {next : ℕ} (found : item_at list at ≡ Ok (r, next)) where
      it_is : (u.due ≡ r ∷ rest) × Hands list next rest
      it_is =
          let a = (item_exactly list at next r).0 (ap told found) in
          let b = (item_exactly list at ahead.2 ahead.0).0 ahead.4 in
          (ahead.3 ∙ ap (λ (p : Request). p ∷ rest) (b.1 ∙ sym a.1), rw (b.2 ∙ sym a.2) at ahead.5)

      sized_now : Sized r × AllSized rest
      sized_now = rw it_is.0 at u.sized

      runs_now : runs (r ∷ rest) o ≡ end_of s list answers log place
      runs_now = rw it_is.0 at u.same

      left_now : o.totals.requests + length (r ∷ rest) ≡ count
      left_now = rw it_is.0 at u.left

      places_now : o.totals.answers + (one_if_combine r + combines_in rest) ≤ length o.answers
      places_now = unfold combines_in in (rw it_is.0 at u.places)

      pub placed_now : HasPlace r o.totals.answers (length o.answers)
      placed_now = placed r o.totals.answers (length o.answers) (omega (arith, places_now))

      goes_on : (in_turn r o).outcome.refusal ≡ 0 → runs rest (done r o) ≡ runs (r ∷ rest) o
      unfolding runs
      goes_on e = rw (eq-eqb (in_turn r o).outcome.refusal 0 e)

      stops : (in_turn r o).outcome.refusal ≢ 0 → record { refusal = (in_turn r o).outcome.refusal; reached = o } ≡ runs (r ∷ rest) o
      unfolding runs
      stops d = rw (ne_eqb (in_turn r o).outcome.refusal 0 d)

      underway_done : (in_turn r o).outcome.refusal ≡ 0 → Underway s list answers log place count next (done r o)
      unfolding done
      underway_done e =
          let kept = sessions_sound o.session r (length o.log) o.totals.next u.typed u.holds sized_now.0.1 in
          record {
            accepted = u.accepted;
            due = rest;
            hands = it_is.1;
            same = goes_on e ∙ runs_now;
            left = omega (arith, left_now);
            few = u.few;
            rooted = served_rooted o.session r (length o.log) o.totals.next ∙ u.rooted;
            typed = kept.0;
            holds = kept.1;
            sized = sized_now.1;
            places = omega (arith, places_now, stored_length r (in_turn r o).outcome.answer o.totals.answers o.answers);
            answers_few = omega (arith, u.answers_few, one_at_most r);
            messages_few = omega (arith, u.messages_few, (at_most_510 o.session r (length o.log) o.totals.next).0);
            answers_long = stored_length r (in_turn r o).outcome.answer o.totals.answers o.answers ∙ u.answers_long;
            log_long = request_length_kept o.session r o.log o.totals.next ∙ u.log_long;
          }

      -- what it answered, and the log it left
      module _ {v : Served} {log' : List ℕ} (served : v ≡ in_turn r o) (logged : log' ≡ log_of o.session r o.log o.totals.next) where
        pub ends_refused : v.outcome.refusal ≢ 0 → record { refusal = v.outcome.refusal; reached = running o.totals v.session o.answers log' } ≡ end_of s list answers log place
        ends_refused d =
            let stay : (in_turn r o).outcome.refusal ≢ 0 = rw served at d in
            let kept : (in_turn r o).session ≡ o.session = ap (λ (w : Served). w.session) (refuses o.session r (length o.log) o.totals.next (omega arith)) in
            rw (served, logged, logs_nothing o.session r o.log o.totals.next (omega arith), kept) (stops stay ∙ runs_now)

        pub underway_next : v.outcome.refusal ≡ 0 → {k : ℕ} {t : Totals} {z : ℤ} {answers' : List ℤ} → k ≡ one_if_combine r → t ≡ added k v.outcome o.totals
            → z ≡ v.outcome.answer → answers' ≡ stored r z o.totals.answers o.answers → Underway s list answers log place count next (running t v.session answers' log')
        underway_next i e f a g = let w = underway_done (rw served at i) in unfold done in rw (f, g, a, logged, served, e) w
