-- Going through a log message by message.
use mathlib.Core.Path.{◌≡◌, refl, ap, ◌∙◌}
use mathlib.Core.Bool.{Bool, true, false, cond}
use mathlib.Core.List.{List, [], ◌∷◌}
use Prim.Native.Nat.{ℕ, zero, suc, ◌-◌, ◌≤◌, ◌<◌}
use native.Mathlib.Nat.{suc-ne-zero}
use native.Mathlib.Omega.{arith}
use lib.Dec.{leb}
use lib.ListN.{length}
use borrow.Author.Tests.{eq-eqb}
use Rattle.fields.specs.Usable.{usable_bits}
use Rattle.messages.specs.Records.{kind_of}
use Rattle.messages.specs.Reading.{Entry, entry_at, told, Reads, followed, messages_from}
use Rattle.messages.specs.Promises.{MessagesOfRead}
use Rattle.messages.specs.declared.Message.{Message}
use Rattle.std.specs.Prelude.{Some, None, Ok, Err}
use Rattle.refusal.specs.declared.Refusal.TheVariants.{Short}
use Rattle.messages.proofs.Widths.{width_bounds}
use Rattle.messages.proofs.Entries.{told_read, read_exactly}

-- what is no message is not listed
messages_none : (s : List ℕ) (place end k : ℕ) → (told (entry_at s place end)).1 ≡ [] → messages_from k s place end ≡ []
unfolding messages_from
messages_none s place end zero h = refl
messages_none s place end (suc k) h = none (entry_at s place end) h
  where
    none : (x : Entry) → (told x).1 ≡ [] → followed x (λ next. messages_from k s next end) ≡ []
    none (Ok (Some x)) h = absurd (suc-ne-zero 0 (ap length h))
    none (Ok None) h = refl
    none (Err r) h = refl

-- between a place and itself stands none
pub nothing_between : (k : ℕ) (s : List ℕ) (place : ℕ) → messages_from k s place place ≡ []
unfolding entry_at
nothing_between k s place = messages_none s place place k (rw (eq-eqb place place refl) (go (leb place (usable_bits (length s)))))
  where
    go : (b : Bool) → (told (cond b (Ok None) (Err Short))).1 ≡ []
    go true = refl
    go false = refl

module _ (s : List ℕ) (place end : ℕ) (m : Message) (next : ℕ) (e : told (entry_at s place end) ≡ (0, (m, next) ∷ [])) where
  -- a message moves the place on, and not past the end
  read_moves : (place < next) × (next ≤ end)
  read_moves =
      let h = (read_exactly s place end next m).0 e in
      (omega (arith, h.2, width_bounds (kind_of m)), h.1)

  -- a message stands before what follows it
  messages_more : (k : ℕ) → messages_from (suc k) s place end ≡ m ∷ messages_from k s next end
  unfolding messages_from
  messages_more k = rw (told_read (entry_at s place end) m next e)

-- as many turns as there are bits left are enough
messages_up_to : (s : List ℕ) (place end : ℕ) (ms : List Message) (k : ℕ) → end - place ≤ k → Reads s place end ms → messages_from k s place end ≡ ms
messages_up_to s place end [] k l e = messages_none s place end k (ap (λ (t : ℕ × List (Message × ℕ)). t.1) e)
messages_up_to s place end (m ∷ ms) zero l (next, e, r) =
    let v = read_moves s place end m next e in
    absurd (omega arith)
messages_up_to s place end (m ∷ ms) (suc k) l (next, e, r) =
    let v = read_moves s place end m next e in
    messages_more s place end m next e k ∙ ap (λ (l : List Message). m ∷ l) (messages_up_to s next end ms k (omega arith) r)

pub messages_of_read : MessagesOfRead
messages_of_read s place end ms r = messages_up_to s place end ms end (omega arith) r
