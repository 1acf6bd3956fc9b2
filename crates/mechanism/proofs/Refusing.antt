-- The refusal is the one that document 01 gives: each request to a session has one verdict.
use mathlib.Core.Path.{◌≡◌, refl}
use mathlib.Core.Bool.{Bool, true, false}
use mathlib.Core.List.{List}
use mathlib.Core.Logic.{inl, inr}
use Prim.Native.Nat.{ℕ, ◌+◌, ◌≤◌, ◌<◌}
use native.Mathlib.Omega.{arith}
use borrow.Author.Tests.{lt-ltb, le-ltb, le-leb, lt-leb}
use Rattle.fields.specs.Usable.{usable_bits}
use Rattle.fields.proofs.Verdicts.{verdict_exactly}
use Rattle.tree.proofs.Cases.{lt_or_le}
use Rattle.messages.specs.Writing.{bits_of_all}
use Rattle.messages.specs.declared.Message.{Message}
use Rattle.session.specs.Soundness.{limit, sound}
use Rattle.session.specs.declared.Session.{Session}
use Rattle.mechanism.specs.Refusals.{all_fit, Ruled, unsound, no_node, no_more, no_room, misfit, accepted, refusal_of}
use Rattle.mechanism.specs.Promises.{RequestRuledExactly}

module _ (b : ℕ) (s : Session) (x len place : ℕ) (ms : List Message) where
  full : sound b s ≡ true → x < s.tree.count → s.accepted < limit → usable_bits len < place + bits_of_all ms → refusal_of b s x len place ms ≡ 9
  unfolding refusal_of
  full a h k l = rw (a, lt-ltb x s.tree.count h, lt-ltb s.accepted limit k, lt-leb (place + bits_of_all ms) (usable_bits len) l)

  pub ruled_once : (r : ℕ) → Ruled b s x len place ms r → refusal_of b s x len place ms ≡ r
  ruled_once r (unsound a) = unfold refusal_of in rw a
  ruled_once r (no_node a h) = unfold refusal_of in rw (a, le-ltb x s.tree.count h)
  ruled_once r (no_more a h k) = unfold refusal_of in rw (a, lt-ltb x s.tree.count h, le-ltb s.accepted limit k)
  ruled_once r (no_room a h k (inl l)) = full a h k (omega arith)
  ruled_once r (no_room a h k (inr l)) = full a h k l
  ruled_once r (misfit a h k l f) = unfold refusal_of in rw (a, lt-ltb x s.tree.count h, lt-ltb s.accepted limit k, le-leb (place + bits_of_all ms) (usable_bits len) l, f)
  ruled_once r (accepted a h k l f) = unfold refusal_of in rw (a, lt-ltb x s.tree.count h, lt-ltb s.accepted limit k, le-leb (place + bits_of_all ms) (usable_bits len) l, f)

  -- every request is judged
  ruled : (r : ℕ) × Ruled b s x len place ms r
  ruled = by_soundness (sound b s) refl
    where
      by_fit : sound b s ≡ true → x < s.tree.count → s.accepted < limit → place + bits_of_all ms ≤ usable_bits len → (t : Bool) → all_fit ms ≡ t → (r : ℕ) × Ruled b s x len place ms r
      by_fit a h k l true f = (0, accepted a h k l f)
      by_fit a h k l false f = (11, misfit a h k l f)

      by_soundness : (t : Bool) → sound b s ≡ t → (r : ℕ) × Ruled b s x len place ms r
      by_soundness false a = (6, unsound a)
      by_soundness true a = lt_or_le x s.tree.count
          (λ h. lt_or_le s.accepted limit
          (λ k. lt_or_le (usable_bits len) (place + bits_of_all ms)
          (λ l. (9, no_room a h k (inr l)))
          (λ l. by_fit a h k l (all_fit ms) refl))
          (λ k. (8, no_more a h k)))
          (λ h. (7, no_node a h))

pub request_ruled_exactly : RequestRuledExactly
request_ruled_exactly b s x len place ms = verdict_exactly (Ruled b s x len place ms) (refusal_of b s x len place ms) (ruled_once b s x len place ms) (ruled b s x len place ms)
