-- A session stays sound through accepted and refused requests, and keeps its tree.
use mathlib.Core.Path.{◌≡◌, refl}
use Prim.Native.Nat.{ℕ}
use Rattle.tree.specs.Operation.{sum}
use Rattle.requests.specs.declared.Request.{Request}
use Rattle.requests.specs.declared.Request.TheVariants.{Combine, Write}
use Rattle.session.specs.declared.Session.{Session}
use Rattle.mechanism.specs.Requests.{after, after_combine, after_write}
use Rattle.mechanism.proofs.Fits.{sum_ranging}
use Rattle.mechanism.proofs.Keeping.{stays_sound}
use Rattle.aggregate.specs.Serving.{served_of}
use Rattle.aggregate.specs.Promises.{SessionsSound}
use Rattle.aggregate.proofs.Verdicts.{accepted_by, answers, refuses, verdict}

pub sessions_sound : SessionsSound
sessions_sound s r len place typed i small = verdict s r len place
    (λ e. let a = accepted_by s r len place e in rw (answers s r len place e) (stays_sound sum 2 sum_ranging s typed i a.free r small a.inside))
    (λ h. rw (refuses s r len place h) (typed, i))

after_rooted : (s : Session) (r : Request) → (after sum 2 s r).tree ≡ s.tree
unfolding after_combine after_write
after_rooted s (Combine x) = refl
after_rooted s (Write x z) = refl

pub served_rooted : (s : Session) (r : Request) (len place : ℕ) → (served_of s r len place).session.tree ≡ s.tree
served_rooted s r len place = verdict s r len place (λ e. rw (answers s r len place e) (after_rooted s r)) (λ h. rw (refuses s r len place h))
