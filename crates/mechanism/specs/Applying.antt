-- What messages make of the pairs of a session: each counts at its pair, a response or an update becomes the cache, and an update lowers the number.
use Rattle.std.specs.Prelude.{Bool, true, false, cond, ◌&&◌, List, [], ◌∷◌, ℕ, suc, ◌+◌, ◌-◌, ltb, ℤ, pos, get_or, set}
use Rattle.tree.specs.Parents.{parent}
use Rattle.tree.specs.Sides.{points_to}
use Rattle.messages.specs.declared.Message.{Message}
use Rattle.messages.specs.declared.Message.TheVariants.{Probe, Response, Update, Release}
use Rattle.session.specs.Holding.{pair_at}
use Rattle.session.specs.declared.Pairs.{Pairs}

-- the pair (from, to) that owns a message: probes and releases run against it
abbrev pub from_of : Message → ℕ
from_of (Probe a b) = b
from_of (Response a b z) = a
from_of (Update a b z) = a
from_of (Release a b) = b

abbrev pub to_of : Message → ℕ
to_of (Probe a b) = a
to_of (Response a b z) = b
to_of (Update a b z) = b
to_of (Release a b) = a

-- what is held of one pair: lease number, cache, and messages sent so far
pub record Cell : Type 0 where
  pub lease : ℕ
  pub cache : ℤ
  pub sent : ℕ

-- what a message makes of its pair's cell
unfoldable pub hit : Message → Cell → Cell
hit (Probe a b) c = record { lease = c.lease; cache = c.cache; sent = c.sent + 1 }
hit (Response a b z) c = record { lease = c.lease; cache = z; sent = c.sent + 1 }
hit (Update a b z) c = record { lease = c.lease - 1; cache = z; sent = c.sent + 1 }
hit (Release a b) c = record { lease = c.lease; cache = c.cache; sent = c.sent + 1 }

-- the cell at a place, read and stored
abbrev pub read_at : Pairs → ℕ → Cell
read_at p i = record { lease = get_or p.lease i 0; cache = get_or p.cache i (pos 0); sent = get_or p.messages i 0 }

abbrev pub store_at : Pairs → ℕ → Cell → Pairs
store_at p i c = record { lease = set p.lease i c.lease; cache = set p.cache i c.cache; messages = set p.messages i c.sent }

-- the pairs of both directions, and the cell of (u,v) among them
pub record Links : Type 0 where
  pub up : Pairs
  pub down : Pairs

unfoldable pub cell : Links → ℕ → ℕ → Cell
cell l u v = record { lease = pair_at 0 l.up.lease l.down.lease u v; cache = pair_at (pos 0) l.up.cache l.down.cache u v; sent = pair_at 0 l.up.messages l.down.messages u v }

abbrev pub put_if : Bool → Links → ℕ → ℕ → Cell → Links
put_if true l u v c = record { up = store_at l.up u c; down = l.down }
put_if false l u v c = record { up = l.up; down = store_at l.down v c }

unfoldable pub put : Links → ℕ → ℕ → Cell → Links
put l u v c = put_if (ltb v u) l u v c

-- what one message makes of the pairs, and what messages make of them one by one
abbrev pub stepped : Message → Links → Links
stepped m l = put l (from_of m) (to_of m) (hit m (cell l (from_of m) (to_of m)))

unfoldable pub applied : List Message → Links → Links
applied [] l = l
applied (m ∷ ms) l = applied ms (stepped m l)

-- each element of a list made another by g, which is told its place
unfoldable pub each : {A : Type 0} → (ℕ → A → A) → ℕ → List A → List A
each g i [] = []
each g i (a ∷ l) = g i a ∷ each g (suc i) l

-- numbers at the places of their pairs, where those of the pairs of n nodes that `points` says become b
abbrev pub raised_at : ℕ → (ℕ → Bool) → ℕ → List ℕ → List ℕ
raised_at n points b l = each (λ i k. cond ((ltb 0 i && ltb i n) && points i) b k) 0 l

-- the numbers after those of the pairs that point to x became b, from child to parent and from parent to child
unfoldable pub up_raised : List ℕ → ℕ → ℕ → ℕ → List ℕ → List ℕ
up_raised ps n b x l = raised_at n (λ i. points_to ps i (parent ps i) x) b l

unfoldable pub down_raised : List ℕ → ℕ → ℕ → ℕ → List ℕ → List ℕ
down_raised ps n b x l = raised_at n (λ i. points_to ps (parent ps i) i x) b l

-- the pairs after every pair that points to x got the number b
abbrev pub renumbered : List ℕ → Pairs → Pairs
renumbered numbers p = record { lease = numbers; cache = p.cache; messages = p.messages }

unfoldable pub raised : List ℕ → ℕ → ℕ → ℕ → Links → Links
raised ps n b x l = record { up = renumbered (up_raised ps n b x l.up.lease) l.up; down = renumbered (down_raised ps n b x l.down.lease) l.down }
