-- The cell of a pair after a request: its number moves and it pays as the rule's automaton does.
use mathlib.Core.Path.{◌≡◌, refl, ap, ap₂, ◌∙◌}
use mathlib.Core.Bool.{Bool, true, false, not, cond, ◌&&◌}
use mathlib.Core.List.{List, [], ◌∷◌}
use Prim.Native.Nat.{ℕ, zero, suc, ◌+◌, ◌-◌}
use native.Mathlib.Omega.{arith}
use lib.Dec.{eqb}
use lib.IntN.{ℤ}
use borrow.Author.Tests.{ne_eqb}
use Rattle.tree.specs.Sides.{side}
use Rattle.tree.specs.Kept.{when, kept}
use Rattle.tree.proofs.Toward.{adjacent_ne, complementary}
use Rattle.rule.specs.Pair.{combine, write, next, price}
use Rattle.messages.specs.declared.Message.{Message}
use Rattle.messages.specs.declared.Message.TheVariants.{Probe, Response, Update}
use Rattle.requests.specs.declared.Request.TheVariants.{Combine, Write}
use Rattle.session.specs.Holding.{lease_of, cache_of, sent_of, Typed}
use Rattle.session.specs.Soundness.{Sound}
use Rattle.session.specs.declared.Session.{Session}
use Rattle.mechanism.specs.Applying.{Cell, hit, cell, applied}
use Rattle.mechanism.specs.Requests.{combines, writes, links_of, after_combine, after_write}
use Rattle.mechanism.specs.Spreading.{released}
use Rattle.mechanism.specs.Pairwise.{about, moves, pays, reply_of, tell_of, Pair}
use Rattle.mechanism.specs.Promises.{CellAfter}
use Rattle.mechanism.proofs.Owned.{Owned, owned}
use Rattle.mechanism.proofs.Says.{lemma_4_1}
use Rattle.mechanism.proofs.Cells.{Wide, hits, same_cell, wide_applied}
use Rattle.mechanism.proofs.Slots.{cell_applied}
use Rattle.mechanism.proofs.Raising.{cell_raised}
use Rattle.mechanism.proofs.Held.{cell_is}

abbrev made : ℕ → ℤ → ℕ → Cell
made k y t = record { lease = k; cache = y; sent = t }

-- what the messages of a pair make of its cell
module _ (z : ℤ) (b u v : ℕ) where
  asked : Bool → Cell → Cell
  asked near c = hits (when (not near && eqb c.lease 0) (Probe v u ∷ Response u v z ∷ [])) c

  asked_is : (near : Bool) (k : ℕ) (y : ℤ) (t : ℕ)
      → made (cond (not near) b (asked near (made k y t)).lease) (asked near (made k y t)).cache (asked near (made k y t)).sent
      ≡ made (moves b combine near k) (cond (not near && eqb k 0) z y) (t + pays combine near k)
  unfolding asked hit moves next pays price
  asked_is true k y t = same_cell k k y y t (t + 0) refl refl (omega arith)
  asked_is false zero y t = same_cell b b z z (t + 1 + 1) (t + 2) refl refl (omega arith)
  asked_is false (suc k) y t = rw (ne_eqb (suc k) 0 (omega arith)) (same_cell b b y y t (t + 0) refl refl (omega arith))

  told : Bool → Cell → Cell
  told near c = hits (when (near && not (eqb c.lease 0)) (Update u v z ∷ released c.lease u v)) c

  told_is : (near : Bool) (k : ℕ) (y : ℤ) (t : ℕ) → told near (made k y t) ≡ made (moves b write near k) (cond (near && not (eqb k 0)) z y) (t + pays write near k)
  unfolding told hit moves next pays price
  told_is false k y t = same_cell k k y y t (t + 0) refl refl (omega arith)
  told_is true zero y t = same_cell 0 0 y y t (t + 0) refl refl (omega arith)
  told_is true (suc zero) y t = same_cell (1 - 1) 0 z z (t + 1 + 1) (t + 2) refl refl (omega arith)
  told_is true (suc (suc k)) y t = rw (ne_eqb (suc (suc k)) 0 (omega arith)) (same_cell (suc (suc k) - 1) (suc k) z z (t + 1) (t + 1) (omega arith) refl refl)

pub wide : {s : Session} → Typed s → Wide (links_of s)
wide t = record { up_long = t.up_long; down_long = t.down_long }

-- the cell of a pair after a request's messages, by those that are about it
messaged : (b : ℕ) (s : Session) → Typed s → Sound b s → (ms : List Message) → Owned s ms → (u v : ℕ) → Pair s u v
    → cell (applied ms (links_of s)) u v ≡ hits (kept (about u v) ms) (made (lease_of s u v) (cache_of s u v) (sent_of s u v))
messaged b s t sd ms o u v p = cell_applied s ms o (links_of s) (wide t) sd.tree_in_rule.few u v p ∙ ap (hits (kept (about u v) ms)) (cell_is s u v)

pub cell_after : CellAfter
unfolding after_combine after_write asked told
cell_after op b s t sd (Combine x) hx u v p =
    cell_raised ps s.tree.count b x (applied ms (links_of s)) (wide_applied ms (links_of s) (wide t)) u v p.near p.far sd.tree_in_rule.few p.edge
    ∙ ap₂ (λ (d : Bool) (c : Cell). made (cond d b c.lease) c.cache c.sent) (complementary ps v u x (adjacent_ne ps v u p.edge))
    (messaged b s t sd ms (owned op b s sd (Combine x) hx) u v p ∙ ap (λ (l : List Message). hits l (made (lease_of s u v) (cache_of s u v) (sent_of s u v))) (lemma_4_1 op b s sd (Combine x) hx u v p))
    ∙ asked_is (reply_of op s u v) b u v (side ps u v x) (lease_of s u v) (cache_of s u v) (sent_of s u v)
  where
    ps : List ℕ
    ps = s.tree.parents

    ms : List Message
    ms = (combines op s x).log
cell_after op b s t sd (Write x z) hx u v p =
    messaged b s t sd (writes op s x z) (owned op b s sd (Write x z) hx) u v p
    ∙ ap (λ (l : List Message). hits l (made (lease_of s u v) (cache_of s u v) (sent_of s u v))) (lemma_4_1 op b s sd (Write x z) hx u v p)
    ∙ told_is (tell_of op s x z u v) b u v (side s.tree.parents u v x) (lease_of s u v) (cache_of s u v) (sent_of s u v)
