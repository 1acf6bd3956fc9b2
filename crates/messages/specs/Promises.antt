-- What is promised of messages and their log. The theorem that proves a statement bears its name in small letters.
use Rattle.std.specs.Prelude.{◌≡◌, true, false, List, [], ◌∷◌, ◌⊎◌, ◌↔◌, ℕ, ◌+◌, ◌^◌, ◌≤◌, ◌<◌, length}
use Rattle.fields.specs.Bits.{bit}
use Rattle.fields.specs.Fields.{field}
use Rattle.fields.specs.Usable.{usable_bits}
use Rattle.messages.specs.Records.{Sized, AllSized, fits, bits_of, record_of, width_of, coded, coded_of}
use Rattle.messages.specs.Writing.{recorded_of, log_after, logged, bits_of_all}
use Rattle.messages.specs.Reading.{decoded, entry_at, told, Reads, messages_from}
use Rattle.refusal.specs.Numbers.{told as told_of}
use Rattle.messages.specs.declared.Message.{Message}

-- A record is a field of 18 or 58 bits.
abbrev pub RecordFits : Type 0
RecordFits = (m : Message) → Sized m → record_of m < 2 ^ bits_of m

-- A message has a number exactly where its value fits 40 bits; where the value does not fit, 11 is answered.
abbrev pub CodedExactly : Type 0
CodedExactly = (m : Message) (n : ℕ) → (told_of 0 (coded_of m) ≡ (0, n)) ↔ ((fits m ≡ true) × (n ≡ coded m))

abbrev pub UncodedExactly : Type 0
UncodedExactly = (m : Message) → (told_of 0 (coded_of m) ≡ (11, 0)) ↔ (fits m ≡ false)

-- A message is read back from its number.
abbrev pub CodedBack : Type 0
CodedBack = (m : Message) → Sized m → decoded (coded m) ≡ m

-- A message is written exactly where its record lies in the usable log and its value fits 40 bits.
abbrev pub RecordedExactly : Type 0
RecordedExactly = (n place next : ℕ) (m : Message) → (told_of 0 (recorded_of n place m) ≡ (0, next)) ↔ ((place + bits_of m ≤ usable_bits n) × (fits m ≡ true) × (next ≡ place + bits_of m))

-- A message is refused with 9 exactly where the usable log ends before its record does.
abbrev pub FullExactly : Type 0
FullExactly = (n place : ℕ) (m : Message) → (told_of 0 (recorded_of n place m) ≡ (9, 0)) ↔ (usable_bits n < place + bits_of m)

-- A message is refused with 11 exactly where there is room for its record, but its value does not fit.
abbrev pub MisfitExactly : Type 0
MisfitExactly = (n place : ℕ) (m : Message) → (told_of 0 (recorded_of n place m) ≡ (11, 0)) ↔ ((place + bits_of m ≤ usable_bits n) × (fits m ≡ false))

-- Writing messages keeps the log's length, and the bits before and after their records, also inside a shared byte.
abbrev pub LogLengthKept : Type 0
LogLengthKept = (s : List ℕ) (place : ℕ) (ms : List Message) → length (logged s place ms) ≡ length s

abbrev pub LogOutsideKept : Type 0
LogOutsideKept = (s : List ℕ) (place : ℕ) (ms : List Message) (k : ℕ) → (k < place) ⊎ (place + bits_of_all ms ≤ k) → bit (logged s place ms) k ≡ bit s k

-- A message that is refused changes nothing.
abbrev pub RefusedLogKept : Type 0
RefusedLogKept = (s : List ℕ) (place : ℕ) (m : Message) → (usable_bits (length s) < place + bits_of m) ⊎ (fits m ≡ false) → log_after s place m ≡ s

-- Reading finds a message exactly where its record stands, all of it before the end, and the end is inside the usable log.
abbrev pub ReadExactly : Type 0
ReadExactly = (s : List ℕ) (place end next : ℕ) (m : Message) → (told (entry_at s place end) ≡ (0, (m, next) ∷ []))
    ↔ ((end ≤ usable_bits (length s)) × (next ≤ end) × (next ≡ place + bits_of m) × Sized m × (field s place (bits_of m) ≡ record_of m))

-- Reading finds the end exactly where the place is the end, and the end is inside the usable log.
abbrev pub EndExactly : Type 0
EndExactly = (s : List ℕ) (place end : ℕ) → (told (entry_at s place end) ≡ (0, [])) ↔ ((end ≤ usable_bits (length s)) × (place ≡ end))

-- Reading is refused with 1 exactly where the end is past the usable log, the place is past the end, or fewer bits are left before the end than the record has.
abbrev pub EntryShortExactly : Type 0
EntryShortExactly = (s : List ℕ) (place end : ℕ) → (told (entry_at s place end) ≡ (1, []))
    ↔ ((usable_bits (length s) < end) ⊎ ((end < place) ⊎ ((place < end) × (end < place + width_of (field s place 2)))))

-- A list of messages written from a place reads back, message by message, to the place after the last, whatever stood in the log before.
abbrev pub LogReadsBack : Type 0
LogReadsBack = (s : List ℕ) (place : ℕ) (ms : List Message) → AllSized ms → place + bits_of_all ms ≤ usable_bits (length s)
    → Reads (logged s place ms) place (place + bits_of_all ms) ms

-- A log that reads as a list of messages has these messages.
abbrev pub MessagesOfRead : Type 0
MessagesOfRead = (s : List ℕ) (place end : ℕ) (ms : List Message) → Reads s place end ms → messages_from end s place end ≡ ms
