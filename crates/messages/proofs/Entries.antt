-- What the reader finds at a place, and exactly where.
use mathlib.Core.Path.{◌≡◌, refl, sym, ap, ◌∙◌}
use mathlib.Core.Bool.{Bool, true, false, cond}
use mathlib.Core.List.{List, [], ◌∷◌}
use mathlib.Core.Logic.{◌⊎◌, inl, inr, ⊎_elim}
use Prim.Native.Nat.{ℕ, ◌+◌, ◌≤◌, ◌<◌}
use native.Mathlib.Nat.{suc-ne-zero}
use native.Mathlib.Decide.{ℕ_discrete, dec_le}
use native.Mathlib.Omega.{arith}
use lib.Dec.{leb}
use lib.ListN.{length}
use borrow.Author.Tests.{le-leb, lt-leb, eq-eqb, ne_eqb}
use Rattle.fields.specs.Fields.{field}
use Rattle.fields.specs.Usable.{usable_bits}
use Rattle.messages.specs.Records.{width_of, kind_of, bits_of, record_of, Sized}
use Rattle.messages.specs.Reading.{Entry, message_at, entry_of, entry_at, told}
use Rattle.messages.specs.inner.Found.{after}
use Rattle.messages.specs.Promises.{ReadExactly, EndExactly, EntryShortExactly}
use Rattle.messages.specs.declared.Message.{Message}
use Rattle.std.specs.Prelude.{Some, None, Ok, Err}
use Rattle.refusal.specs.declared.Refusal.TheVariants.{Short}
use Rattle.refusal.proofs.Numbers.{numbers_within}
use Rattle.messages.proofs.Widths.{width_bounds}
use Rattle.messages.proofs.Stands.{standing, is_read}

-- the message whose record starts at a place
abbrev pub message_there : List ℕ → ℕ → Message
message_there s place = message_at s place (field s place 2)

-- short either way
either : (b : Bool) → ◌≡◌ {A = Entry} (cond b (Err Short) (Err Short)) (Err Short)
either true = refl
either false = refl

module _ (s : List ℕ) (place end : ℕ) where
  pub entry_past : usable_bits (length s) < end → entry_at s place end ≡ Err Short
  unfolding entry_at
  entry_past h = rw (lt-leb end (usable_bits (length s)) h)

  pub entry_end : end ≤ usable_bits (length s) → place ≡ end → entry_at s place end ≡ Ok None
  unfolding entry_at
  entry_end h q = rw (le-leb end (usable_bits (length s)) h, eq-eqb place end q)

  pub entry_short : (place ≡ end → ⊥) → end < after s place → entry_at s place end ≡ Err Short
  unfolding entry_at entry_of
  entry_short d l = rw (ne_eqb place end d, lt-leb (after s place) end l) (either (leb end (usable_bits (length s))))

  pub entry_read : (kind : ℕ) → kind ≡ field s place 2 → end ≤ usable_bits (length s) → place + width_of kind ≤ end
      → (m : Message) (next : ℕ) → m ≡ message_at s place kind → next ≡ place + width_of kind → entry_at s place end ≡ Ok (Some (m, next))
  unfolding entry_at entry_of
  entry_read kind q h l m next em en =
      rw (em, en, le-leb end (usable_bits (length s)) h, ne_eqb place end (λ (i : place ≡ end). omega (arith, width_bounds kind)), ← q, le-leb (place + width_of kind) end l)

  -- there are no other cases
  pub by_case : (P : Entry → Type 0)
      → (usable_bits (length s) < end → P (Err Short))
      → (end ≤ usable_bits (length s) → place ≡ end → P (Ok None))
      → ((place ≡ end → ⊥) → end < after s place → P (Err Short))
      → (end ≤ usable_bits (length s) → after s place ≤ end → P (Ok (Some (message_there s place, after s place))))
      → P (entry_at s place end)
  by_case P past at_end short read = go (dec_le end (usable_bits (length s))) (ℕ_discrete place end) (dec_le (after s place) end)
    where
      go : Dec (end ≤ usable_bits (length s)) → Dec (place ≡ end) → Dec (after s place ≤ end) → P (entry_at s place end)
      go (no h) d w = let l : usable_bits (length s) < end = omega arith in rw (entry_past l) (past l)
      go (yes h) (yes d) w = rw (entry_end h d) (at_end h d)
      go (yes h) (no d) (no w) = let l : end < after s place = omega arith in rw (entry_short d l) (short d l)
      go (yes h) (no d) (yes w) = rw (entry_read (field s place 2) refl h w (message_there s place) (after s place) refl refl) (read h w)

  -- a message's record that stands before the end is found
  pub found : (m : Message) → end ≤ usable_bits (length s) → place + bits_of m ≤ end → Sized m → field s place (bits_of m) ≡ record_of m → entry_at s place end ≡ Ok (Some (m, place + bits_of m))
  found m h l ok e =
      let g = is_read s place m ok e in
      entry_read (kind_of m) g.0 h l m (place + bits_of m) g.1 refl

-- the number of what is told, how many messages, and the first of them
abbrev code : ℕ × List (Message × ℕ) → ℕ
code t = t.0

abbrev many : ℕ × List (Message × ℕ) → ℕ
many t = length t.1

abbrev first : Message × ℕ → ℕ × List (Message × ℕ) → Message × ℕ
first none (n, []) = none
first none (n, x ∷ xs) = x

-- only a message is told with one
pub told_read : (x : Entry) (m : Message) (next : ℕ) → told x ≡ (0, (m, next) ∷ []) → x ≡ Ok (Some (m, next))
told_read (Ok (Some x)) m next e = ap (λ (t : ℕ × List (Message × ℕ)). Ok (Some (first (m, next) t))) e
told_read (Ok None) m next e = absurd (suc-ne-zero 0 (sym (ap many e)))
told_read (Err r) m next e = absurd (omega (arith, ap code e, numbers_within r))

module _ (s : List ℕ) (place end next : ℕ) (m : Message) where
  abbrev Stood : Type 0
  Stood = (end ≤ usable_bits (length s)) × (next ≤ end) × (next ≡ place + bits_of m) × Sized m × (field s place (bits_of m) ≡ record_of m)

  stood : end ≤ usable_bits (length s) → after s place ≤ end
      → told (Ok (Some (message_there s place, after s place))) ≡ (0, (m, next) ∷ []) → Stood
  stood h l e =
      let f : message_there s place ≡ m = ap (λ (t : ℕ × List (Message × ℕ)). (first (m, next) t).0) e in
      let g : after s place ≡ next = ap (λ (t : ℕ × List (Message × ℕ)). (first (m, next) t).1) e in
      let t = rw f at (standing s place (field s place 2) refl) in
      (h, omega arith, sym g ∙ ap (λ (k : ℕ). place + width_of k) (sym t.kind), t.sized, t.stands)

pub read_exactly : ReadExactly
read_exactly s place end next m = (
  by_case s place end (λ x. told x ≡ (0, (m, next) ∷ []) → Stood s place end next m)
      (λ h e. absurd (suc-ne-zero 0 (ap code e)))
      (λ h d e. absurd (suc-ne-zero 0 (sym (ap many e))))
      (λ d l e. absurd (suc-ne-zero 0 (ap code e)))
      (stood s place end next m),
  λ (h, l, q, ok, e). ap told (found s place end m h (omega arith) ok e) ∙ ap (λ (n : ℕ). (0, (m, n) ∷ [])) (sym q),
)

pub end_exactly : EndExactly
end_exactly s place end = (
  by_case s place end (λ x. told x ≡ (0, []) → (end ≤ usable_bits (length s)) × (place ≡ end))
      (λ h e. absurd (suc-ne-zero 0 (ap code e)))
      (λ h d e. (h, d))
      (λ d l e. absurd (suc-ne-zero 0 (ap code e)))
      (λ h l e. absurd (suc-ne-zero 0 (ap many e))),
  λ h. ap told (entry_end s place end h.0 h.1),
)

pub entry_short_exactly : EntryShortExactly
entry_short_exactly s place end = (
  by_case s place end (λ x. told x ≡ (1, []) → (usable_bits (length s) < end) ⊎ Cut)
      (λ h e. inl h)
      (λ h d e. absurd (suc-ne-zero 0 (sym (ap code e))))
      (λ d l e. inr (cut d l (dec_le place end)))
      (λ h l e. absurd (suc-ne-zero 0 (sym (ap code e)))),
  ⊎_elim (λ h. ap told (entry_past s place end h))
      (⊎_elim (λ h. ap told (entry_short s place end (λ d. omega arith) (omega arith))) (λ (h, l). ap told (entry_short s place end (λ d. omega arith) l))),
)
  where
    Cut : Type 0
    Cut = (end < place) ⊎ ((place < end) × (end < after s place))

    cut : (place ≡ end → ⊥) → end < after s place → Dec (place ≤ end) → Cut
    cut d l (yes h) = inr (omega arith, l)
    cut d l (no h) = inl (omega arith)
