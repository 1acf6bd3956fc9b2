-- A message's record as one number, and what is found where a record starts.
use Rattle.std.specs.Prelude.{ℕ, ◌+◌, ◌*◌, ◌^◌, ℤ, List, cond, leb, Result, Ok, Err}
use Rattle.refusal.specs.declared.Refusal.{Refusal}
use Rattle.refusal.specs.declared.Refusal.TheVariants.{Short, Misfit}
use Rattle.fields.specs.Fields.{field}
use Rattle.twos.specs.Twos.{twos, within}
use Rattle.messages.specs.Records.{fits, width_of, record_of}
use Rattle.messages.specs.Reading.{message_at}
use Rattle.messages.specs.declared.Message.{Message}

-- the record of a message whose value fits
unfoldable pub numbered : Message → Result ℕ Refusal
numbered m = cond (fits m) (Ok (record_of m)) (Err Misfit)

-- the place after the record that starts at a place
abbrev pub after : List ℕ → ℕ → ℕ
after s place = place + width_of (field s place 2)

-- the message whose record starts at a place and ends before an end, and the place after it
unfoldable pub record_at : List ℕ → ℕ → ℕ → Result (Message × ℕ) Refusal
record_at s place end = cond (leb (after s place) end) (Ok (message_at s place (field s place 2), after s place)) (Err Short)

-- the number of a value that fits, behind a head
unfoldable pub behind : ℕ → ℤ → Result ℕ Refusal
behind head z = cond (within 40 z) (Ok (head * 2 ^ 40 + twos 40 z)) (Err Misfit)
