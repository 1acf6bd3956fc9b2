-- One ordered pair of neighbours through one request.
use Rattle.std.specs.Prelude.{◌≡◌, Bool, true, false, not, cond, ◌&&◌, ◌≢◌, List, [], ◌∷◌, ℕ, zero, suc, ◌+◌, ◌<◌, eqb, ℤ}
use Rattle.tree.specs.Operation.{Op, aggregate}
use Rattle.tree.specs.Sides.{adjacent, side}
use Rattle.tree.specs.Ranges.{Range}
use Rattle.rule.specs.Pair.{combine, write, next, price}
use Rattle.rule.specs.Pair as pair
use Rattle.requests.specs.declared.Request.{Request}
use Rattle.requests.specs.declared.Request.TheVariants.{Combine, Write}
use Rattle.messages.specs.declared.Message.{Message}
use Rattle.messages.specs.declared.Message.TheVariants.{Probe, Response, Update}
use Rattle.session.specs.Holding.{value_of, lease_of, cache_of}
use Rattle.session.specs.declared.Session.{Session}
use Rattle.mechanism.specs.Views.{View, view}
use Rattle.mechanism.specs.Combining.{ask}
use Rattle.mechanism.specs.Spreading.{total, released}
use Rattle.mechanism.specs.Applying.{from_of, to_of}
use Rattle.mechanism.specs.Requests.{valued}

-- the pair (u,v) owns the message
abbrev pub about : ℕ → ℕ → Message → Bool
about u v m = eqb u (from_of m) && eqb v (to_of m)

-- the lease number of a pair after a request, and the messages that it costs the pair; the test says whether the request is on u's side
unfoldable pub moves : ℕ → pair.Request → Bool → ℕ → ℕ
moves b combine true k = k
moves b combine false k = next b k combine
moves b write true k = next b k write
moves b write false k = k

unfoldable pub pays : pair.Request → Bool → ℕ → ℕ
pays combine true k = 0
pays combine false k = price k combine
pays write true k = price k write
pays write false k = 0

-- whether the pair (u,v) has messages: at a combine that it points to where its number is 0, at a write on u's side where its number is positive
abbrev pub speaks : pair.Request → Bool → ℕ → Bool
speaks combine near k = not near && eqb k 0
speaks write near k = near && not (eqb k 0)

module _ (op : Op ℤ) (q : View) where
  -- what u tells v when v asks
  abbrev pub reply : ℕ → ℕ → ℤ
  reply u v = (ask op q q.count u v).sum

  -- what u tells w in a write at x: its neighbour towards x has just told u
  unfoldable pub carry : ℕ → ℕ → ℕ → ℕ → ℤ
  carry x zero u w = q.value u
  carry x (suc k) u w = total op q (λ c. cond (side q.parents c u x) (carry x k c u) (q.cache c u)) u w q.count

  abbrev pub tell : ℕ → ℕ → ℕ → ℤ
  tell x u w = carry x q.count u w

-- what u tells v in a session: when v asks, in a write of z at x, and in a request
abbrev pub reply_of : Op ℤ → Session → ℕ → ℕ → ℤ
reply_of op s u v = reply op (view s) u v

abbrev pub tell_of : Op ℤ → Session → ℕ → ℤ → ℕ → ℕ → ℤ
tell_of op s x z u v = tell op (view (valued s x z)) x u v

abbrev pub told_of : Op ℤ → Session → Request → ℕ → ℕ → ℤ
told_of op s (Combine x) u v = reply_of op s u v
told_of op s (Write x z) u v = tell_of op s x z u v

-- the messages of a pair with number k that tells y: a probe and its response; or an update, and a release where k was 1
abbrev pub exchange : pair.Request → ℕ → ℕ → ℕ → ℤ → List Message
exchange combine k u v y = Probe v u ∷ Response u v y ∷ []
exchange write k u v y = Update u v y ∷ released k u v

-- u and v are neighbours in the session's tree
pub record Pair (s : Session) (u v : ℕ) : Type 0 where
  pub near : u < s.tree.count
  pub far : v < s.tree.count
  pub edge : adjacent s.tree.parents v u ≡ true

-- each leased cache is the aggregate of its side
abbrev pub Right : Op ℤ → Session → Type 0
Right op s = (u v : ℕ) → Pair s u v → lease_of s u v ≢ 0 → cache_of s u v ≡ aggregate op (value_of s) (side s.tree.parents u v) s.tree.count

-- the values of a session are plain: the operation's ε does not change them
abbrev pub Plain : Op ℤ → Session → Type 0
Plain op s = (u : ℕ) → op.◌⊕◌ (value_of s u) op.ε ≡ value_of s u

-- ranges go through the operation
abbrev pub Ranging : Op ℤ → Type 0
Ranging op = (j k : ℕ) (y z : ℤ) → Range j y → Range k z → Range (j + k) (op.◌⊕◌ y z)

-- the value that a request writes is plain: the operation's ε does not change it
abbrev pub PlainlyWritten : Op ℤ → Request → Type 0
PlainlyWritten op (Combine x) = Unit
PlainlyWritten op (Write x z) = op.◌⊕◌ z op.ε ≡ z
