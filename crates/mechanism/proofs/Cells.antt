-- What messages make of one entry of a session's pairs: what its own messages make of it, in their order.
use mathlib.Core.Path.{◌≡◌, refl, sym, ap, ◌∙◌}
use mathlib.Core.Bool.{Bool, true, false, not, cond, ◌&&◌, false≢true}
use mathlib.Core.List.{List, [], ◌∷◌}
use Prim.Native.Nat.{ℕ, ◌<◌}
use native.Mathlib.Decide.{ℕ_discrete}
use native.Mathlib.Omega.{arith}
use lib.Dec.{eqb, ltb}
use lib.IntN.{ℤ, pos}
use lib.ListN.{get_or, length-set}
use lib.Seq.{get_or-set_same, get_or-set_other}
use borrow.Author.Tests.{eqb-true, eq-eqb, ne_eqb}
use Rattle.tree.specs.Kept.{kept}
use Rattle.tree.proofs.Cases.{either}
use Rattle.messages.specs.declared.Message.{Message}
use Rattle.session.specs.Holding.{pair_at, Long}
use Rattle.session.specs.declared.Pairs.{Pairs}
use Rattle.mechanism.specs.Applying.{from_of, to_of, Cell, hit, read_at, store_at, Links, cell, put_if, put, applied}

-- room is kept for 256 nodes in both directions
pub record Wide (l : Links) : Type 0 where
  pub up_long : Long l.up
  pub down_long : Long l.down

-- the pairs of one direction: true is from child to parent
abbrev pub way : Bool → Links → Pairs
way true l = l.up
way false l = l.down

-- the pair (u,v), and a message, has the entry i of that direction
abbrev pub meets : ℕ → ℕ → Bool → ℕ → Bool
meets u v t i = cond (ltb v u) (t && eqb u i) (not t && eqb v i)

abbrev pub touches : Bool → ℕ → Message → Bool
touches t i m = meets (from_of m) (to_of m) t i

-- what a list of messages makes of a cell
abbrev pub hits : List Message → Cell → Cell
hits [] c = c
hits (m ∷ ms) c = hits ms (hit m c)

pub same_cell : (j k : ℕ) (y z : ℤ) (p q : ℕ) → j ≡ k → y ≡ z → p ≡ q → ◌≡◌ {A = Cell} (record { lease = j; cache = y; sent = p }) (record { lease = k; cache = z; sent = q })
same_cell j k y z p q d e f = rw (d, e, f)

-- ---- one store

read_stored : (p : Pairs) (i j : ℕ) (c : Cell) → Long p → j < 256 → read_at (store_at p i c) j ≡ cond (eqb i j) c (read_at p j)
read_stored p i j c h l = either (ℕ_discrete i j)
    (λ e. rw (eq-eqb i j e, e)
    (same_cell _ _ _ _ _ _
    (get_or-set_same p.lease j c.lease 0 (omega (arith, h.leases)))
    (get_or-set_same p.cache j c.cache (pos 0) (omega (arith, h.caches)))
    (get_or-set_same p.messages j c.sent 0 (omega (arith, h.counts)))))
    (λ e. rw (ne_eqb i j e)
    (same_cell _ _ _ _ _ _
    (get_or-set_other p.lease i j c.lease 0 (λ o. e (sym o)))
    (get_or-set_other p.cache i j c.cache (pos 0) (λ o. e (sym o)))
    (get_or-set_other p.messages i j c.sent 0 (λ o. e (sym o)))))

long_stored : (p : Pairs) (i : ℕ) (c : Cell) → Long p → Long (store_at p i c)
long_stored p i c h =
    record {
      leases = length-set p.lease i c.lease ∙ h.leases;
      caches = length-set p.cache i c.cache ∙ h.caches;
      counts = length-set p.messages i c.sent ∙ h.counts;
    }

module _ (l : Links) (u v : ℕ) where
  entry_put : (t : Bool) (i : ℕ) (c : Cell) → Wide l → i < 256 → read_at (way t (put l u v c)) i ≡ cond (meets u v t i) c (read_at (way t l) i)
  unfolding put
  entry_put t i c h hi = go (ltb v u) t
    where
      go : (s t : Bool) → read_at (way t (put_if s l u v c)) i ≡ cond (cond s (t && eqb u i) (not t && eqb v i)) c (read_at (way t l) i)
      go true true = read_stored l.up u i c h.up_long hi
      go true false = refl
      go false true = refl
      go false false = read_stored l.down v i c h.down_long hi

  wide_put : (c : Cell) → Wide l → Wide (put l u v c)
  unfolding put
  wide_put c h = go (ltb v u)
    where
      go : (s : Bool) → Wide (put_if s l u v c)
      go true = record { up_long = long_stored l.up u c h.up_long; down_long = h.down_long }
      go false = record { up_long = h.up_long; down_long = long_stored l.down v c h.down_long }

  -- the cell of a pair is the entry at the child's place
  pub cell_by : cell l u v ≡ cond (ltb v u) (read_at l.up u) (read_at l.down v)
  unfolding cell pair_at
  cell_by = go (ltb v u)
    where
      go : (t : Bool) → record {
        lease = cond t (get_or l.up.lease u 0) (get_or l.down.lease v 0);
        cache = cond t (get_or l.up.cache u (pos 0)) (get_or l.down.cache v (pos 0));
        sent = cond t (get_or l.up.messages u 0) (get_or l.down.messages v 0);
      }
          ≡ cond t (read_at l.up u) (read_at l.down v)
      go true = refl
      go false = refl

  meets_cell : (t : Bool) (i : ℕ) → meets u v t i ≡ true → cell l u v ≡ read_at (way t l) i
  meets_cell t i e = cell_by ∙ go (ltb v u) t e
    where
      go : (s t : Bool) → cond s (t && eqb u i) (not t && eqb v i) ≡ true → cond s (read_at l.up u) (read_at l.down v) ≡ read_at (way t l) i
      go true true e = rw (eqb-true u i e)
      go true false e = absurd (false≢true e)
      go false true e = absurd (false≢true e)
      go false false e = rw (eqb-true v i e)

-- ---- a list of messages

pub wide_applied : (ms : List Message) (l : Links) → Wide l → Wide (applied ms l)
unfolding applied
wide_applied [] l h = h
wide_applied (m ∷ ms) l h = wide_applied ms _ (wide_put l (from_of m) (to_of m) (hit m (cell l (from_of m) (to_of m))) h)

pub entry_applied : (t : Bool) (i : ℕ) → i < 256 → (ms : List Message) (l : Links) → Wide l → read_at (way t (applied ms l)) i ≡ hits (kept (touches t i) ms) (read_at (way t l) i)
unfolding applied kept
entry_applied t i hi [] l h = refl
entry_applied t i hi (m ∷ ms) l h =
    entry_applied t i hi ms (put l (from_of m) (to_of m) c) (wide_put l (from_of m) (to_of m) c h)
    ∙ ap (hits (kept (touches t i) ms)) (entry_put l (from_of m) (to_of m) t i c h hi)
    ∙ go (touches t i m) refl
  where
    c : Cell
    c = hit m (cell l (from_of m) (to_of m))

    go : (s : Bool) → touches t i m ≡ s → hits (kept (touches t i) ms) (cond s c (read_at (way t l) i)) ≡ hits (kept (touches t i) (m ∷ ms)) (read_at (way t l) i)
    go true e = rw (e, meets_cell l (from_of m) (to_of m) t i e)
    go false e = rw e
