-- A list is refused as a whole or its requests are run, and what it comes to in either case.
use mathlib.Core.Path.{◌≡◌, refl, sym, ap, ◌∙◌}
use mathlib.Core.Bool.{Bool, true, false, cond}
use mathlib.Core.Logic.{◌≢◌}
use mathlib.Core.List.{List}
use Prim.Native.Nat.{ℕ, zero, suc, ◌≤◌, ◌<◌}
use native.Mathlib.Omega.{arith}
use lib.Dec.{eqb, leb}
use lib.IntN.{ℤ}
use lib.ListN.{length}
use borrow.Author.Tests.{eq-eqb, ne_eqb, le-leb, lt-leb, leb-true}
use Rattle.requests.specs.Reading.{judged_of}
use Rattle.requests.specs.Told.{Judged}
use Rattle.requests.proofs.Refusals.{accepted, list_ruled_exactly, judged_whole}
use Rattle.session.specs.Soundness.{sound, Sound}
use Rattle.session.specs.declared.Session.{Session}
use Rattle.session.proofs.Soundly.{sound_exactly}
use Rattle.aggregate.specs.Running.{Running, list_refusal, ended_as, refused, end_of, ran_of, answers_of, run_log_of}
use Rattle.std.specs.Prelude.{Some}
use Rattle.refusal.specs.Numbers.{number}
use Rattle.refusal.specs.declared.Refusal.{Refusal}
use Rattle.refusal.proofs.Numbers.{numbers_within}
use Rattle.aggregate.specs.inner.Turns.{Starting}
use Rattle.aggregate.specs.Told.{Ran, told_stop}

-- the chain of tests
chain : ℕ → Bool → Bool → ℕ
chain n b c = cond (eqb n 0) (cond b (cond c 0 6) 10) n

all_passed : (n : ℕ) (b c : Bool) → chain n b c ≡ 0 → (n ≡ 0) × (b ≡ true) × (c ≡ true)
unfolding chain
all_passed zero true true e = (refl, refl, refl)
all_passed zero true false e = absurd (omega arith)
all_passed zero false c e = absurd (omega arith)
all_passed (suc n) b c e = let f : suc n ≡ 0 = rw (ne_eqb (suc n) 0 (omega arith)) at e in absurd (omega arith)

-- what is known of a list that is not refused as a whole
pub record Runnable (s : Session) (list : List ℕ) (places : ℕ) : Type 0 where
  pub read : (judged_of list).refusal ≡ 0
  pub few : (judged_of list).requests ≤ 4096
  pub enough : (judged_of list).combines ≤ places
  pub holds : Sound 2 s

pub runnable_by : (s : Session) (list : List ℕ) (places : ℕ) → list_refusal s list places ≡ 0 → Runnable s list places
unfolding list_refusal chain
runnable_by s list places e =
    let t = all_passed (judged_of list).refusal (leb (judged_of list).combines places) (sound 2 s) e in
    let h = (list_ruled_exactly list 0).0 t.0 in
    record { read = t.0; few = rw (judged_whole list h) (accepted list h).0.few; enough = leb-true (judged_of list).combines places t.1; holds = (sound_exactly 2 s).0 t.2 }

module _ (s : Session) (list : List ℕ) (answers : List ℤ) (log : List ℕ) (place : ℕ) where
  -- this result, these answer places and this log are what the list comes to
  abbrev pub Ends : Ran → List ℤ → List ℕ → Type 0
  Ends v told left = (v ≡ ran_of s list answers log place) × (told ≡ answers_of s list answers log place) × (left ≡ run_log_of s list answers log place)

  -- where it is not refused as a whole, it ends where its requests end
  pub ends : list_refusal s list (length answers) ≡ 0 → (n : ℕ) (o : Running) → record { refusal = n; reached = o } ≡ end_of s list answers log place
      → Ends (ended_as n o.totals o.session) o.answers o.log
  unfolding ran_of answers_of run_log_of
  ends e n o h = rw (e, ← h) (refl, refl, refl)

  -- where a request is refused, its index is the number of those done
  pub stops : list_refusal s list (length answers) ≡ 0 → (r : Refusal) (k : ℕ) (o : Running) → o.totals.requests ≡ k → record { refusal = number r; reached = o } ≡ end_of s list answers log place
      → Ends (told_stop (Some (record { index = k; refusal = r })) o.totals o.session) o.answers o.log
  stops e r k o is h =
      let i : cond (eqb (number r) 0) 0 o.totals.requests ≡ k = rw (ne_eqb (number r) 0 (λ z. omega (arith, z, (numbers_within r).0))) is in
      let f = ends e (number r) o h in
      (ap (λ (m : ℕ). record { refusal = number r; index = m; totals = o.totals; session = o.session }) (sym i) ∙ f.0, f.1, f.2)

  pub ends_whole : (n : ℕ) → list_refusal s list (length answers) ≡ n → n ≢ 0 → Ends (refused n s) answers log
  unfolding ran_of answers_of run_log_of
  ends_whole zero e d = absurd (d refl)
  ends_whole (suc n) e d = rw (e, ne_eqb (suc n) 0 d) (refl, refl, refl)

  -- ---- the tests in their order

  -- it is refused as a whole with n
  abbrev pub Refuses : ℕ → Type 0
  Refuses n = (refused n s ≡ ran_of s list answers log place) × (answers ≡ answers_of s list answers log place) × (log ≡ run_log_of s list answers log place) × (n ≡ list_refusal s list (length answers))

  refuses_with : (n : ℕ) → list_refusal s list (length answers) ≡ n → n ≢ 0 → Refuses n
  refuses_with n e d = let f = ends_whole n e d in (f.0, f.1, f.2, sym e)

  module _ (j : Judged) (told : j ≡ judged_of list) where
    pub ends_unread : j.refusal ≢ 0 → Refuses j.refusal
    ends_unread d = refuses_with j.refusal (unfold list_refusal in rw (← told, ne_eqb j.refusal 0 d)) d

    module _ (read : j.refusal ≡ 0) where
      pub ends_few_places : length answers < j.combines → Refuses 10
      ends_few_places h = refuses_with 10 (unfold list_refusal in rw (← told, eq-eqb j.refusal 0 read, lt-leb j.combines (length answers) h)) (λ e. omega arith)

      module _ (enough : j.combines ≤ length answers) where
        pub ends_unsound : sound 2 s ≡ false → Refuses 6
        ends_unsound e = refuses_with 6 (unfold list_refusal in rw (← told, eq-eqb j.refusal 0 read, le-leb j.combines (length answers) enough, e)) (λ e. omega arith)

        pub starting : sound 2 s ≡ true → Starting s list (length answers) j.requests j.first
        starting e = record { accepted = unfold list_refusal in rw (← told, eq-eqb j.refusal 0 read, le-leb j.combines (length answers) enough, e); counted = rw told; begins = rw told }
