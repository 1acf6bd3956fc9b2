-- What writing a message answers, and the log after it.
use Rattle.std.specs.Prelude.{Bool, cond, ◌&&◌, List, [], ◌∷◌, ℕ, ◌+◌, leb, length, Result, Ok, Err}
use Rattle.refusal.specs.declared.Refusal.{Refusal}
use Rattle.refusal.specs.declared.Refusal.TheVariants.{NoRoom, Misfit}
use Rattle.fields.specs.Fields.{put_field}
use Rattle.fields.specs.Usable.{usable_bits}
use Rattle.messages.specs.Records.{fits, bits_of, record_of}
use Rattle.messages.specs.declared.Message.{Message}

-- a record of m from place on lies in the usable log of n bytes
abbrev pub room : ℕ → ℕ → Message → Bool
room n place m = leb (place + bits_of m) (usable_bits n)

-- what writing m answers: room is looked at first
unfoldable pub recorded_of : ℕ → ℕ → Message → Result ℕ Refusal
recorded_of n place m = cond (room n place m) (cond (fits m) (Ok (place + bits_of m)) (Err Misfit)) (Err NoRoom)

-- the log after m is written: the record is one field of it; where m is refused the log stays as it is
unfoldable pub log_after : List ℕ → ℕ → Message → List ℕ
log_after s place m = cond (room (length s) place m && fits m) (put_field s place (bits_of m) (record_of m)) s

-- the log after a list of messages, each from the place after the one before
unfoldable pub logged : List ℕ → ℕ → List Message → List ℕ
logged s place [] = s
logged s place (m ∷ ms) = logged (log_after s place m) (place + bits_of m) ms

-- how many bits the records of all messages have
unfoldable pub bits_of_all : List Message → ℕ
bits_of_all [] = 0
bits_of_all (m ∷ ms) = bits_of m + bits_of_all ms

-- the records of all messages have room in the usable log of n bytes, from place on
abbrev pub room_for_all : ℕ → ℕ → List Message → Bool
room_for_all n place ms = leb (place + bits_of_all ms) (usable_bits n)
