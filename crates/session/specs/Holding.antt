-- What a session holds of each node and of each ordered pair of neighbours.
use Rattle.std.specs.Prelude.{◌≡◌, true, cond, List, ℕ, ltb, ℤ, pos, get_or, length}
use Rattle.twos.specs.Twos.{within}
use Rattle.session.specs.declared.Pairs.{Pairs}
use Rattle.session.specs.declared.Session.{Session}

-- The entry of the pair (u,v): the larger of the two is the child, at whose place both pairs of the edge stand, that to the parent in `up` and that to the child in `down`.
unfoldable pub pair_at : {A : Type 0} → A → List A → List A → ℕ → ℕ → A
pair_at d up down u v = cond (ltb v u) (get_or up u d) (get_or down v d)

-- the value of node u
abbrev pub value_of : Session → ℕ → ℤ
value_of s u = get_or s.values u (pos 0)

-- the lease number of the pair (u,v), v's cached value for u's side, and the messages of the pair sent so far
abbrev pub lease_of : Session → ℕ → ℕ → ℕ
lease_of s u v = pair_at 0 s.up.lease s.down.lease u v

abbrev pub cache_of : Session → ℕ → ℕ → ℤ
cache_of s u v = pair_at (pos 0) s.up.cache s.down.cache u v

abbrev pub sent_of : Session → ℕ → ℕ → ℕ
sent_of s u v = pair_at 0 s.up.messages s.down.messages u v

-- Room is kept for 256 nodes, and values have 32 bits: what every session has by its type.
pub record Long (p : Pairs) : Type 0 where
  pub leases : length p.lease ≡ 256
  pub caches : length p.cache ≡ 256
  pub counts : length p.messages ≡ 256

pub record Typed (s : Session) : Type 0 where
  pub parents_long : length s.tree.parents ≡ 256
  pub values_long : length s.values ≡ 256
  pub values_small : (u : ℕ) → within 32 (value_of s u) ≡ true
  pub up_long : Long s.up
  pub down_long : Long s.down
