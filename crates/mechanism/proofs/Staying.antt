-- What keeps a session sound: every pair moves and pays as the rule's automaton does, caches stay in range, and entries that are not used stay as they are.
use mathlib.Core.Path.{◌≡◌, ap, ◌∙◌}
use mathlib.Core.Bool.{Bool, true, false}
use mathlib.Core.Logic.{◌⊎◌}
use mathlib.Core.List.{List}
use Prim.Native.Nat.{ℕ, ◌+◌, ◌<◌, ◌≤◌}
use native.Mathlib.Omega.{arith}
use lib.IntN.{ℤ, pos}
use lib.ListN.{get_or}
use Rattle.tree.specs.Sides.{side}
use Rattle.tree.specs.Sizes.{size}
use Rattle.tree.specs.Ranges.{Range}
use Rattle.tree.proofs.Toward.{adjacent_sym, nested}
use Rattle.rule.specs.Pair.{Request}
use Rattle.session.specs.Holding.{lease_of, cache_of, sent_of}
use Rattle.session.specs.Soundness.{limit, Ordered, Unused, Sound}
use Rattle.session.specs.declared.Pairs.{Pairs}
use Rattle.session.specs.declared.Session.{Session}
use Rattle.mechanism.specs.Applying.{Cell, read_at, Links}
use Rattle.mechanism.specs.Requests.{links_of}
use Rattle.mechanism.specs.Pairwise.{moves, pays, Pair}
use Rattle.mechanism.proofs.Cells.{way}
use Rattle.mechanism.proofs.Moves.{moves_mono, moves_small, pays_two}

-- the session after a request, with these values and pairs
abbrev pub renewed : Session → List ℤ → Links → Session
renewed s vs l = record { tree = s.tree; values = vs; up = l.up; down = l.down; accepted = s.accepted + 1 }

-- it moved from s by a request r at x
pub record Moved (b : ℕ) (s : Session) (r : Request) (x : ℕ) (vs : List ℤ) (l : Links) : Type 0 where
  pub leases : (u v : ℕ) → Pair s u v → lease_of (renewed s vs l) u v ≡ moves b r (side s.tree.parents u v x) (lease_of s u v)
  pub counts : (u v : ℕ) → Pair s u v → sent_of (renewed s vs l) u v ≡ sent_of s u v + pays r (side s.tree.parents u v x) (lease_of s u v)
  pub caches : (u v : ℕ) → Pair s u v → Range (size s.tree.parents s.tree.count u v) (cache_of (renewed s vs l) u v)
  pub idle : (t : Bool) (i : ℕ) → i < 256 → (i ≡ 0) ⊎ (s.tree.count ≤ i) → read_at (way t l) i ≡ read_at (way t (links_of s)) i
  pub empty : (i : ℕ) → i < 256 → s.tree.count ≤ i → get_or vs i (pos 0) ≡ pos 0

unused_same : (p q : Pairs) (i : ℕ) → read_at p i ≡ read_at q i → Unused q i → Unused p i
unused_same p q i e h =
    record {
      no_lease = ap (λ (c : Cell). c.lease) e ∙ h.no_lease;
      no_cache = ap (λ (c : Cell). c.cache) e ∙ h.no_cache;
      no_messages = ap (λ (c : Cell). c.sent) e ∙ h.no_messages;
    }

module _ {b : ℕ} {s : Session} (sd : Sound b s) {r : Request} {x : ℕ} {vs : List ℤ} {l : Links} (m : Moved b s r x vs l) (hx : x < s.tree.count) where
  -- numbers stay in order, since the sides lie within each other
  still_ordered : Ordered s.tree.parents s.tree.count (lease_of (renewed s vs l))
  still_ordered w u v hw hu hv a e d =
      let near : Pair s u v = record { near = hu; far = hv; edge = e } in
      let further : Pair s w u = record { near = hw; far = hu; edge = adjacent_sym s.tree.parents u w ∙ a } in
      rw (m.leases u v near, m.leases w u further)
      (moves_mono b r (side s.tree.parents u v x) (side s.tree.parents w u x)
      (nested s.tree.parents s.tree.count sd.tree_in_rule.grown u w v x hu hx a e d)
      (lease_of s u v) (lease_of s w u) (sd.ordered w u v hw hu hv a e d) (sd.low u v hu hv e))

  pub moved_sound : s.accepted < limit → Sound b (renewed s vs l)
  moved_sound free =
      record {
        tree_in_rule = sd.tree_in_rule;
        low = λ u v hu hv a. rw (m.leases u v (record { near = hu; far = hv; edge = a })) (moves_small b r (side s.tree.parents u v x) (lease_of s u v) (sd.low u v hu hv a));
        ordered = still_ordered;
        caches_in = λ u v hu hv a. m.caches u v (record { near = hu; far = hv; edge = a });
        few = omega arith;
        paid = λ u v hu hv a. omega (arith, m.counts u v (record { near = hu; far = hv; edge = a }), sd.paid u v hu hv a, pays_two r (side s.tree.parents u v x) (lease_of s u v));
        no_pairs = λ i h u. let o = sd.no_pairs i h u in (unused_same l.up s.up i (m.idle true i h u) o.0, unused_same l.down s.down i (m.idle false i h u) o.1);
        no_values = m.empty;
      }
