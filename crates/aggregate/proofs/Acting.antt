-- An act at a node, step by step: what its steps make of the parts of a session is what its request makes of the session.
use mathlib.Core.Path.{◌≡◌, refl, ◌∙◌}
use mathlib.Core.List.{List}
use Prim.Native.Nat.{ℕ, ◌<◌}
use native.Mathlib.Omega.{arith}
use lib.IntN.{ℤ, pos}
use lib.ListN.{get_or, set}
use lib.Seq.{set-get_or, set-set}
use Rattle.tree.specs.Operation.{sum}
use Rattle.messages.specs.declared.Message.{Message}
use Rattle.session.specs.Holding.{value_of, Typed}
use Rattle.session.specs.Soundness.{Sound}
use Rattle.session.specs.declared.Session.{Session}
use Rattle.mechanism.specs.Views.{view}
use Rattle.mechanism.specs.Applying.{applied}
use Rattle.requests.specs.Lists.{node_of, Small}
use Rattle.mechanism.specs.Requests.{combines, writes, valued, links_of, after_combine, after_write, says, after}
use Rattle.mechanism.proofs.After.{wide}
use Rattle.mechanism.proofs.Cells.{wide_applied}
use Rattle.mechanism.proofs.Valued.{valued_sound, valued_typed}
use Rattle.walk.proofs.Fitting.{sound_fit}
use Rattle.walk.proofs.Starting.{sound_steady}
use Rattle.aggregate.specs.Serving.{refused_outcome, refused}
use Rattle.aggregate.specs.inner.Afters.{paired, Raisable}
use Rattle.aggregate.specs.inner.Acts.{request_of, served_as, Servable, begun, begun_of, walked, Walkable, settled_of, counted}
use Rattle.aggregate.specs.Told.{Outcome, Served}
use Rattle.aggregate.specs.declared.act.Act.{Act}
use Rattle.aggregate.specs.declared.act.Act.TheVariants.{Combine, Write}

pub node_of_lem : (x : ℕ) (a : Act) → node_of (request_of x a) ≡ x
node_of_lem x Combine = refl
node_of_lem x (Write z) = refl

-- ---- begun: the value is set, and the walk can be made

module _ (s : Session) (x : ℕ) where
  begun_typed : (a : Act) → Typed s → x < 256 → Small (request_of x a) → Typed (begun_of s x a)
  begun_typed Combine t h small = t
  begun_typed (Write z) t h small = valued_typed s x z t h small

  begun_sound : (a : Act) → Sound 2 s → x < s.tree.count → Sound 2 (begun_of s x a)
  begun_sound Combine i h = i
  begun_sound (Write z) i h = valued_sound s x z i h

  pub walkable : (a : Act) {first next : List ℕ} → Servable s first next → x < s.tree.count → Small (request_of x a) → Walkable (view (begun_of s x a)) first next x
  walkable a v h small =
      let t = begun_typed a v.typed (omega (arith, v.holds.tree_in_rule.few)) small in
      let i = begun_sound a v.holds h in
      record { inside = h; fit = sound_fit 2 (begun_of s x a) t i; steady = sound_steady 2 (begun_of s x a) t i; linked = v.linked }

  -- what it says is what the request says
  pub says_walked : (a : Act) → walked a (view (begun_of s x a)) x ≡ says sum s (request_of x a)
  unfolding combines writes
  says_walked Combine = refl
  says_walked (Write z) = refl

-- a value that was set is taken back
restored : (a : Act) (x : ℕ) (vs : List ℤ) → set (begun a x vs) x (get_or vs x (pos 0)) ≡ vs
restored Combine x vs = set-get_or vs x (pos 0)
restored (Write z) x vs = set-set vs x z (get_or vs x (pos 0)) ∙ set-get_or vs x (pos 0)

pub restored_of : (s : Session) (x : ℕ) (a : Act) {t : Session} {z : ℤ} → t ≡ begun_of s x a → z ≡ value_of s x → valued t x z ≡ s
restored_of s x a e f = rw (e, f, restored a x s.values)

-- a refused act answers as its request does
pub refused_in_place : (s t : Session) (n : ℕ) (o : Outcome) {v : Served} → o ≡ refused_outcome n → t ≡ s → refused n s ≡ v → served_as o t ≡ v
refused_in_place s t n o e f h = rw (e, f) h

-- ---- applied and settled: the session after

module _ (s : Session) (x : ℕ) (a : Act) (ms : List Message) where
  -- the session that was begun, with the messages applied
  abbrev pub hit_of : Session
  hit_of = paired (begun_of s x a) (applied ms (links_of (begun_of s x a)))

  -- as many numbers as before
  pub climbing : Typed s → Sound 2 s → x < s.tree.count → Raisable hit_of x
  climbing t i h =
      let w = wide_applied ms (links_of s) (wide t) in
      record { room = i.tree_in_rule.few; grown = i.tree_in_rule.grown; inside = h; up_long = w.up_long.leases; down_long = w.down_long.leases }

pub settled : (s : Session) (x : ℕ) (a : Act) (ms : List Message) → ms ≡ (says sum s (request_of x a)).log → counted (settled_of (hit_of s x a ms) x a) ≡ after sum 2 s (request_of x a)
unfolding after_combine after_write
settled s x Combine ms e = rw e
settled s x (Write z) ms e = rw e
