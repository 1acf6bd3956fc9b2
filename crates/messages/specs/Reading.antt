-- What the log's reader finds at a place, before an end.
use Rattle.std.specs.Prelude.{◌≡◌, cond, List, [], ◌∷◌, ℕ, zero, suc, ◌+◌, ◌/◌, ◌%◌, eqb, leb, ℤ, length, Option, Some, None, Result, Ok, Err}
use Rattle.refusal.specs.Numbers.{number}
use Rattle.refusal.specs.declared.Refusal.{Refusal}
use Rattle.refusal.specs.declared.Refusal.TheVariants.{Short}
use Rattle.fields.specs.Fields.{field}
use Rattle.fields.specs.Usable.{usable_bits}
use Rattle.twos.specs.Twos.{signed}
use Rattle.messages.specs.Records.{width_of}
use Rattle.messages.specs.declared.Message.{Message}
use Rattle.messages.specs.declared.Message.TheVariants.{Probe, Response, Update, Release}

-- the message of a kind, from a to b, with value z
unfoldable pub message_of : ℕ → ℕ → ℕ → ℤ → Message
message_of kind a b z = cond (eqb kind 0) (Probe a b) (cond (eqb kind 1) (Response a b z) (cond (eqb kind 2) (Update a b z) (Release a b)))

-- the message of a number of 58 bits
unfoldable pub decoded : ℕ → Message
decoded n = message_of (n / 72057594037927936) (n / 281474976710656 % 256) (n / 1099511627776 % 256) (signed 40 (n % 1099511627776))

-- the message of a kind whose record starts at place: kind in 2 bits, sender in 8, receiver in 8, value in 40
unfoldable pub message_at : List ℕ → ℕ → ℕ → Message
message_at s place kind = message_of kind (field s (place + 2) 8) (field s (place + 10) 8) (signed 40 (field s (place + 18) 40))

-- what reading finds: a message and the place after its record, nothing at the end, or a refusal
abbrev pub Entry : Type 0
Entry = Result (Option (Message × ℕ)) Refusal

-- what is found at place of a record of the kind: a message, if all of it lies before the end
unfoldable pub entry_of : List ℕ → ℕ → ℕ → ℕ → Entry
entry_of s place end kind = cond (leb (place + width_of kind) end) (Ok (Some (message_at s place kind, place + width_of kind))) (Err Short)

-- What is found at place, before an end that has to be inside the usable log. Past the end of the log every bit reads 0, and any record has at least 18 bits, so a kind that is cut off is short too.
unfoldable pub entry_at : List ℕ → ℕ → ℕ → Entry
entry_at s place end = cond (leb end (usable_bits (length s))) (cond (eqb place end) (Ok None) (entry_of s place end (field s place 2))) (Err Short)

-- document 01's number, and the message with the next place if there is one: none at the end, 1 and none where refused as too short
abbrev pub told : Entry → ℕ × List (Message × ℕ)
told (Ok (Some x)) = (0, x ∷ [])
told (Ok None) = (0, [])
told (Err r) = (number r, [])

-- from place on the reader finds these messages one behind the other, and then the end
abbrev pub Reads : List ℕ → ℕ → ℕ → List Message → Type 0
Reads s place end [] = told (entry_at s place end) ≡ (0, [])
Reads s place end (m ∷ ms) = (next : ℕ) × (told (entry_at s place end) ≡ (0, (m, next) ∷ [])) × Reads s next end ms

-- the place after what was found: past a message, else where it was
abbrev pub place_after : Entry → ℕ → ℕ
place_after (Ok (Some (m, next))) place = next
place_after (Ok None) place = place
place_after (Err r) place = place

-- the message that was found and what follows it; no messages where none was found
abbrev pub followed : Entry → (ℕ → List Message) → List Message
followed (Ok (Some (m, next))) rest = m ∷ rest next
followed (Ok None) rest = []
followed (Err r) rest = []

-- the messages that stand one behind the other from place on, at most k
unfoldable pub messages_from : ℕ → List ℕ → ℕ → ℕ → List Message
messages_from zero s place end = []
messages_from (suc k) s place end = followed (entry_at s place end) (λ next. messages_from k s next end)
