-- One message at its pair, and one message more, as the code does them.
use mathlib.Core.Path.{◌≡◌, refl, sym, ap, ◌∙◌}
use mathlib.Core.Bool.{Bool, true, false, cond}
use mathlib.Core.List.{List, [], ◌∷◌, ◌++◌}
use Prim.Native.Nat.{ℕ, zero, suc, ◌+◌, ◌<◌, ◌≤◌}
use native.Mathlib.Omega.{arith}
use native.Mathlib.Numerals.{add-one}
use lib.Dec.{ltb}
use lib.ListN.{get_or, set}
use borrow.Author.Tests.{lt-ltb, le-ltb}
use Rattle.messages.specs.Reading.{decoded}
use Rattle.messages.specs.declared.Message.{Message}
use Rattle.messages.specs.declared.Message.TheVariants.{Probe, Response, Update, Release}
use Rattle.session.specs.Holding.{pair_at}
use Rattle.session.specs.declared.Pairs.{Pairs}
use Rattle.mechanism.specs.Applying.{from_of, to_of, Cell, hit, read_at, store_at, Links, cell, put_if, put, stepped, applied}
use Rattle.mechanism.proofs.Cells.{cell_by}
use Rattle.trace.specs.inner.Traces.{messages_in}
use Rattle.mechanism.specs.Requests.{links_of}
use Rattle.session.specs.declared.Session.{Session}
use Rattle.aggregate.specs.inner.Afters.{Counts, paired}

-- ---- a message at its pair, by the side of the entry

module _ (l : Links) (m : Message) (p : Pairs) (u v : ℕ) (from : u ≡ from_of m) (to : v ≡ to_of m) where
  pub step_up : v < u → p ≡ store_at l.up u (hit m (read_at l.up u)) → record { up = p; down = l.down } ≡ stepped m l
  unfolding put cell pair_at
  step_up h e = rw (← from, ← to, lt-ltb v u h, e)

  pub step_down : u ≤ v → p ≡ store_at l.down v (hit m (read_at l.down v)) → record { up = l.up; down = p } ≡ stepped m l
  unfolding put cell pair_at
  step_down h e = rw (← from, ← to, le-ltb v u h, e)

-- ---- a count grows by one

counts_more : (j k : ℕ) (l : Links) → j ≤ k → Counts j l → Counts k l
counts_more j k l h c = record { up_few = λ i. omega (arith, c.up_few i); down_few = λ i. omega (arith, c.down_few i) }

set_le : (xs : List ℕ) (i x j m : ℕ) → get_or xs j 0 ≤ m → x ≤ m → get_or (set xs i x) j 0 ≤ m
set_le [] i x j m h k = h
set_le (y ∷ ys) zero x zero m h k = k
set_le (y ∷ ys) zero x (suc j) m h k = h
set_le (y ∷ ys) (suc i) x zero m h k = h
set_le (y ∷ ys) (suc i) x (suc j) m h k = set_le ys i x j m h k

sent_one : (m : Message) (c : Cell) → (hit m c).sent ≡ c.sent + 1
unfolding hit
sent_one (Probe a b) c = refl
sent_one (Response a b z) c = refl
sent_one (Update a b z) c = refl
sent_one (Release a b) c = refl

counts_step : (j : ℕ) (m : Message) (l : Links) → Counts j l → Counts (j + 1) (stepped m l)
unfolding put
counts_step j m l h = rw (cell_by l (from_of m) (to_of m)) (go (ltb (to_of m) (from_of m)))
  where
    go : (s : Bool) → Counts (j + 1) (put_if s l (from_of m) (to_of m) (hit m (cond s (read_at l.up (from_of m)) (read_at l.down (to_of m)))))
    go true =
        record {
          up_few = λ i. set_le l.up.messages (from_of m) _ i (j + 1) (omega (arith, h.up_few i)) (omega (arith, sent_one m (read_at l.up (from_of m)), h.up_few (from_of m)));
          down_few = λ i. omega (arith, h.down_few i);
        }
    go false =
        record {
          up_few = λ i. omega (arith, h.up_few i);
          down_few = λ i. set_le l.down.messages (to_of m) _ i (j + 1) (omega (arith, h.down_few i)) (omega (arith, sent_one m (read_at l.down (to_of m)), h.down_few (to_of m)));
        }

-- ---- one message more of the trace

applied_more : (ms : List Message) (m : Message) (l : Links) → applied (ms ++ (m ∷ [])) l ≡ stepped m (applied ms l)
unfolding applied
applied_more [] m l = refl
applied_more (p ∷ ms) m l = applied_more ms m (stepped p l)

-- what the loop has made of the session s after k messages
pub record Done (ns : List ℕ) (s : Session) (k : ℕ) (t : Session) : Type 0 where
  pub few : Counts (2097152 + k) (links_of t)
  pub is : t ≡ paired s (applied (messages_in ns k) (links_of s))

pub done_none : (ns : List ℕ) (s : Session) → Counts 2097152 (links_of s) → Done ns s 0 s
unfolding messages_in applied
done_none ns s c = record { few = counts_more 2097152 (2097152 + 0) (links_of s) (omega arith) c; is = refl }

pub done_more : {ns : List ℕ} {s t : Session} {k : ℕ} → Done ns s k t → (m : Message) → m ≡ decoded (get_or ns k 0) → (r : Session) → r ≡ paired t (stepped m (links_of t)) → Done ns s (k + 1) r
unfolding messages_in
done_more {ns} {s} {t} {k} d m n r e =
    record {
      few = rw e (counts_more (2097152 + k + 1) (2097152 + (k + 1)) _ (omega arith) (counts_step (2097152 + k) m (links_of t) d.few));
      is = rw add-one (e ∙ ap (λ (o : Session). paired o (stepped m (links_of o))) d.is ∙ ap (paired s) (sym (applied_more (messages_in ns k) m (links_of s)) ∙ ap (λ p. applied (messages_in ns k ++ (p ∷ [])) (links_of s)) n));
    }
