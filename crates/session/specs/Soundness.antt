-- When a session is sound, in document 01's words, and as a test. b is the break count, which is 2 for the rule.
use Rattle.std.specs.Prelude.{◌≡◌, Bool, true, not, ◌&&◌, ◌||◌, ◌⊎◌, ◌≢◌, List, ℕ, ◌*◌, ◌≤◌, ◌<◌, leb, ltb, ℤ, pos, get_or}
use Rattle.tree.specs.Every.{every}
use Rattle.tree.specs.Parents.{InRule, in_rule}
use Rattle.tree.specs.Sides.{adjacent, other}
use Rattle.tree.specs.Sizes.{size}
use Rattle.tree.specs.Ranges.{Range, in_range}
use Rattle.session.specs.Holding.{value_of, lease_of, cache_of, sent_of}
use Rattle.session.specs.declared.Pairs.{Pairs}
use Rattle.session.specs.declared.Session.{Session}

-- the most requests that a session accepts
abbrev pub limit : ℕ
limit = 1048576

-- for r and v different neighbours of u, the number of (r,u) is at least that of (u,v)
abbrev pub Ordered : List ℕ → ℕ → (ℕ → ℕ → ℕ) → Type 0
Ordered ps n lease = (r u v : ℕ) → r < n → u < n → v < n → adjacent ps r u ≡ true → adjacent ps v u ≡ true → r ≢ v → lease u v ≤ lease r u

-- entry i of one direction is zero, as one that is not used
pub record Unused (p : Pairs) (i : ℕ) : Type 0 where
  pub no_lease : get_or p.lease i 0 ≡ 0
  pub no_cache : get_or p.cache i (pos 0) ≡ pos 0
  pub no_messages : get_or p.messages i 0 ≡ 0

pub record Sound (b : ℕ) (s : Session) : Type 0 where
  -- node count and parents are in rule, and their unused entries are zero
  pub tree_in_rule : InRule s.tree.parents s.tree.count
  -- no lease number is above b
  pub low : (u v : ℕ) → u < s.tree.count → v < s.tree.count → adjacent s.tree.parents v u ≡ true → lease_of s u v ≤ b
  -- the inequality between neighbouring pairs holds
  pub ordered : Ordered s.tree.parents s.tree.count (lease_of s)
  -- a cache for a side of k nodes is in the range of k
  pub caches_in : (u v : ℕ) → u < s.tree.count → v < s.tree.count → adjacent s.tree.parents v u ≡ true → Range (size s.tree.parents s.tree.count u v) (cache_of s u v)
  -- accepted requests are not above the limit
  pub few : s.accepted ≤ limit
  -- a pair's messages are not above twice the accepted requests
  pub paid : (u v : ℕ) → u < s.tree.count → v < s.tree.count → adjacent s.tree.parents v u ≡ true → sent_of s u v ≤ 2 * s.accepted
  -- unused entries are zero
  pub no_pairs : (i : ℕ) → i < 256 → (i ≡ 0) ⊎ (s.tree.count ≤ i) → Unused s.up i × Unused s.down i
  pub no_values : (i : ℕ) → i < 256 → s.tree.count ≤ i → value_of s i ≡ pos 0

-- ---- soundness as a test

-- a test of every ordered pair of neighbours, and of every two different neighbours of a node
abbrev pub every_pair : List ℕ → ℕ → (ℕ → ℕ → Bool) → Bool
every_pair ps n test = every (λ u. every (λ v. not (adjacent ps v u) || test u v) n) n

abbrev pub every_two : List ℕ → ℕ → (ℕ → ℕ → ℕ → Bool) → Bool
every_two ps n test = every_pair ps n (λ u v. every (λ r. not (other ps u v r) || test r u v) n)

-- the lease number, the cache and the messages of a pair are within their limits
unfoldable pub in_limits : ℕ → ℕ → ℕ → ℕ → ℤ → ℕ → Bool
in_limits b k twice lease cache messages = leb lease b && (leb messages twice && in_range k cache)

-- entry i of one direction is zero, and i is no node that has such an entry
abbrev pub zero_at : Pairs → ℕ → Bool
zero_at p i = in_limits 0 0 0 (get_or p.lease i 0) (get_or p.cache i (pos 0)) (get_or p.messages i 0)

abbrev pub no_pair : ℕ → ℕ → Bool
no_pair n i = not (ltb 0 i && ltb i n)

unfoldable pub sound : ℕ → Session → Bool
sound b s =
    in_rule s.tree.parents s.tree.count
    && (leb s.accepted limit
    && (every_pair s.tree.parents s.tree.count (λ u v. in_limits b (size s.tree.parents s.tree.count u v) (2 * s.accepted) (lease_of s u v) (cache_of s u v) (sent_of s u v))
    && (every_two s.tree.parents s.tree.count (λ r u v. leb (lease_of s u v) (lease_of s r u))
    && (every (λ i. not (no_pair s.tree.count i) || (zero_at s.up i && zero_at s.down i)) 256
    && every (λ i. ltb i s.tree.count || in_range 0 (value_of s i)) 256))))
