-- The refusals of a request to a sound session, step by step: those before its walk, then the room for its records.
use mathlib.Core.Path.{◌≡◌, refl}
use mathlib.Core.Bool.{Bool, true, false, cond}
use mathlib.Core.Logic.{◌≢◌}
use mathlib.Core.List.{List}
use Prim.Native.Nat.{ℕ, ◌<◌}
use native.Mathlib.Omega.{arith}
use lib.Dec.{ltb}
use borrow.Author.Tests.{lt-ltb, ltb-true}
use Rattle.messages.specs.Writing.{room_for_all}
use Rattle.messages.specs.declared.Message.{Message}
use Rattle.session.specs.Soundness.{limit, Sound}
use Rattle.session.specs.declared.Session.{Session}
use Rattle.session.proofs.Soundly.{sound_exactly}
use Rattle.mechanism.specs.Refusals.{all_fit, refusal_of}
use Rattle.aggregate.specs.inner.Acts.{early_refusal}

-- a request at x is accepted, if there is room for its records
pub record Ready (s : Session) (x : ℕ) : Type 0 where
  pub holds : Sound 2 s
  pub inside : x < s.tree.count
  pub free : s.accepted < limit

-- the two chains of tests
early : Bool → Bool → ℕ
early b c = cond b (cond c 0 8) 7

refuse : Bool → Bool → Bool → Bool → ℕ
refuse b c d e = cond b (cond c (cond d (cond e 0 11) 9) 8) 7

both_passed : (b c : Bool) → early b c ≡ 0 → (b ≡ true) × (c ≡ true)
unfolding early
both_passed true true e = (refl, refl)
both_passed true false e = absurd (omega arith)
both_passed false c e = absurd (omega arith)

one_failed : (b c d e : Bool) → early b c ≢ 0 → refuse b c d e ≡ early b c
unfolding early refuse
one_failed false c d e n = refl
one_failed true false d e n = refl
one_failed true true d e n = absurd (n refl)

module _ (s : Session) (holds : Sound 2 s) (x : ℕ) where
  pub ready : early_refusal s.tree.count s.accepted x ≡ 0 → Ready s x
  unfolding early_refusal early
  ready e =
      let t = both_passed (ltb x s.tree.count) (ltb s.accepted limit) e in
      record { holds = holds; inside = ltb-true x s.tree.count t.0; free = ltb-true s.accepted limit t.1 }

  -- a refusal before the walk is the refusal
  pub refused_before : (len place : ℕ) (ms : List Message) → early_refusal s.tree.count s.accepted x ≢ 0 → refusal_of 2 s x len place ms ≡ early_refusal s.tree.count s.accepted x
  unfolding early_refusal refusal_of early refuse
  refused_before len place ms n = rw ((sound_exactly 2 s).1 holds) (one_failed (ltb x s.tree.count) (ltb s.accepted limit) (room_for_all len place ms) (all_fit ms) n)

-- else it is the room that decides, where all values fit
pub by_room : (s : Session) (x len place : ℕ) (ms : List Message) → Ready s x → all_fit ms ≡ true → refusal_of 2 s x len place ms ≡ cond (room_for_all len place ms) 0 9
unfolding refusal_of
by_room s x len place ms r f = rw ((sound_exactly 2 s).1 r.holds, lt-ltb x s.tree.count r.inside, lt-ltb s.accepted limit r.free, f)
