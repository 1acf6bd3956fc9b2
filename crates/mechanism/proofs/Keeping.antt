-- A sound session is sound after a combine and after a write.
use mathlib.Core.Path.{◌≡◌, refl, ◌∙◌}
use mathlib.Core.Bool.{Bool, true, false, not, cond, ◌&&◌, false≢true}
use mathlib.Core.Logic.{◌≢◌}
use Prim.Native.Nat.{ℕ, ◌<◌}
use native.Mathlib.Omega.{arith}
use lib.Dec.{eqb}
use lib.IntN.{ℤ, pos}
use lib.ListN.{set, length-set}
use lib.Seq.{get_or-set_other}
use borrow.Author.Tests.{eqb-false, not-true}
use Rattle.twos.specs.Twos.{within}
use Rattle.tree.specs.Operation.{Op}
use Rattle.tree.specs.Sides.{side}
use Rattle.tree.specs.Sizes.{size}
use Rattle.tree.specs.Ranges.{Range}
use Rattle.rule.specs.Pair.{combine, write}
use Rattle.requests.specs.declared.Request.TheVariants.{Combine, Write}
use Rattle.session.specs.Holding.{lease_of, cache_of, Typed}
use Rattle.session.specs.Soundness.{Sound}
use Rattle.session.specs.declared.Session.{Session}
use Rattle.mechanism.specs.Applying.{Links, applied, raised}
use Rattle.mechanism.specs.Requests.{combines, writes, links_of, after_combine, after_write}
use Rattle.mechanism.specs.Pairwise.{reply_of, tell_of, Ranging}
use Rattle.mechanism.specs.Promises.{StaysSound}
use Rattle.mechanism.proofs.Owned.{owned}
use Rattle.mechanism.proofs.Valued.{valued_has}
use Rattle.mechanism.proofs.Sums.{reply_in, tell_in}
use Rattle.mechanism.proofs.Cells.{Wide, wide_applied}
use Rattle.mechanism.proofs.Slots.{idle_applied}
use Rattle.mechanism.proofs.Raising.{wide_raised, idle_raised}
use Rattle.mechanism.proofs.Held.{lease_held, cache_held, sent_held}
use Rattle.mechanism.proofs.After.{wide, cell_after}
use Rattle.mechanism.proofs.Staying.{Moved, moved_sound}

chosen : (P : ℤ → Type 0) (t : Bool) (y z : ℤ) → (t ≡ true → P y) → P z → P (cond t y z)
chosen P true y z p q = p refl
chosen P false y z p q = q

positive : (t : Bool) (k : ℕ) → (t && not (eqb k 0)) ≡ true → k ≢ 0
positive true k e o = eqb-false k 0 (not-true (eqb k 0) e) o
positive false k e o = absurd (false≢true e)

module _ (op : Op ℤ) (b : ℕ) (s : Session) (t : Typed s) (sd : Sound b s) (x : ℕ) (hx : x < s.tree.count) where
  -- ---- a combine

  asked : Links
  asked = applied (combines op s x).log (links_of s)

  asked_wide : Wide asked
  unfolding asked
  asked_wide = wide_applied (combines op s x).log (links_of s) (wide t)

  combine_moved : Ranging op → Moved b s combine x s.values (raised s.tree.parents s.tree.count b x asked)
  unfolding after_combine asked
  combine_moved ranging =
      record {
        leases = λ u v p. lease_held (after_combine op b s x) u v (cell_after op b s t sd (Combine x) hx u v p);
        counts = λ u v p. sent_held (after_combine op b s x) u v (cell_after op b s t sd (Combine x) hx u v p);
        caches = λ u v p. rw (cache_held (after_combine op b s x) u v (cell_after op b s t sd (Combine x) hx u v p))
            (chosen (Range (size s.tree.parents s.tree.count u v)) (not (side s.tree.parents u v x) && eqb (lease_of s u v) 0) (reply_of op s u v) (cache_of s u v)
            (λ e. reply_in op b ranging s t sd u v p)
            (sd.caches_in u v p.near p.far p.edge));
        idle = λ d i h u. idle_raised s.tree.parents s.tree.count b x asked asked_wide d i h u
            ∙ idle_applied s (combines op s x).log (owned op b s sd (Combine x) hx) (links_of s) (wide t) sd.tree_in_rule.few i h u d;
        empty = sd.no_values;
      }

  combine_typed : Typed (after_combine op b s x)
  unfolding after_combine asked
  combine_typed =
      let w = wide_raised s.tree.parents s.tree.count b x asked asked_wide in
      record { parents_long = t.parents_long; values_long = t.values_long; values_small = t.values_small; up_long = w.up_long; down_long = w.down_long }

  -- ---- a write

  module _ (z : ℤ) (small : within 32 z ≡ true) where
    write_moved : Ranging op → Moved b s write x (set s.values x z) (applied (writes op s x z) (links_of s))
    unfolding after_write
    write_moved ranging =
        record {
          leases = λ u v p. lease_held (after_write op s x z) u v (cell_after op b s t sd (Write x z) hx u v p);
          counts = λ u v p. sent_held (after_write op s x z) u v (cell_after op b s t sd (Write x z) hx u v p);
          caches = λ u v p. rw (cache_held (after_write op s x z) u v (cell_after op b s t sd (Write x z) hx u v p))
              (chosen (Range (size s.tree.parents s.tree.count u v)) (side s.tree.parents u v x && not (eqb (lease_of s u v) 0)) (tell_of op s x z u v) (cache_of s u v)
              (λ e. tell_in op b ranging s t sd x z small hx u v p (positive (side s.tree.parents u v x) (lease_of s u v) e))
              (sd.caches_in u v p.near p.far p.edge));
          idle = λ d i h u. idle_applied s (writes op s x z) (owned op b s sd (Write x z) hx) (links_of s) (wide t) sd.tree_in_rule.few i h u d;
          empty = λ i h l. get_or-set_other s.values x i z (pos 0) (omega arith) ∙ sd.no_values i h l;
        }

    write_typed : Typed (after_write op s x z)
    unfolding after_write
    write_typed =
        let w = wide_applied (writes op s x z) (links_of s) (wide t) in
        record { parents_long = t.parents_long; values_long = length-set s.values x z ∙ t.values_long; values_small = valued_has s x z (λ y. within 32 y ≡ true) t (omega (arith, sd.tree_in_rule.few)) small t.values_small; up_long = w.up_long; down_long = w.down_long }

pub stays_sound : StaysSound
unfolding after_combine after_write asked
stays_sound op b ranging s t sd free (Combine x) small hx = (combine_typed op b s t sd x hx, moved_sound sd (combine_moved op b s t sd x hx ranging) hx free)
stays_sound op b ranging s t sd free (Write x z) small hx = (write_typed op b s t sd x hx z small, moved_sound sd (write_moved op b s t sd x hx z small ranging) hx free)
