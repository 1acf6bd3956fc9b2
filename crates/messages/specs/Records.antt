-- A message as a record: kind in 2 bits (0 probe, 1 response, 2 update, 3 release), sender in 8, receiver in 8, and for response and update the value in 40 bits, two's complement.
use Rattle.std.specs.Prelude.{◌≡◌, Bool, true, cond, ◌||◌, List, [], ◌∷◌, ℕ, ◌+◌, ◌-◌, ◌*◌, ◌^◌, ◌<◌, eqb, Result, Ok, Err}
use Rattle.refusal.specs.declared.Refusal.{Refusal}
use Rattle.refusal.specs.declared.Refusal.TheVariants.{Misfit}
use Rattle.twos.specs.Twos.{twos, within}
use Rattle.messages.specs.declared.Message.{Message}
use Rattle.messages.specs.declared.Message.TheVariants.{Probe, Response, Update, Release}

unfoldable pub kind_of : Message → ℕ
kind_of (Probe a b) = 0
kind_of (Response a b z) = 1
kind_of (Update a b z) = 2
kind_of (Release a b) = 3

abbrev pub sender_of : Message → ℕ
sender_of (Probe a b) = a
sender_of (Response a b z) = a
sender_of (Update a b z) = a
sender_of (Release a b) = a

abbrev pub receiver_of : Message → ℕ
receiver_of (Probe a b) = b
receiver_of (Response a b z) = b
receiver_of (Update a b z) = b
receiver_of (Release a b) = b

-- a message's value, if it has one, fits 40 bits
abbrev pub fits : Message → Bool
fits (Probe a b) = true
fits (Response a b z) = within 40 z
fits (Update a b z) = within 40 z
fits (Release a b) = true

-- a message's sender and receiver are bytes, and its value fits
abbrev pub Sized : Message → Type 0
Sized m = (sender_of m < 256) × (receiver_of m < 256) × (fits m ≡ true)

abbrev pub AllSized : List Message → Type 0
AllSized [] = Unit
AllSized (m ∷ ms) = Sized m × AllSized ms

-- how many bits a record of a kind has, and how many the record of a message
unfoldable pub width_of : ℕ → ℕ
width_of kind = cond (eqb kind 1 || eqb kind 2) 58 18

abbrev pub bits_of : Message → ℕ
bits_of m = width_of (kind_of m)

-- a message's record as one number: kind, sender and receiver, and the value behind them
abbrev pub head_of : ℕ → ℕ → ℕ → ℕ
head_of kind a b = (kind * 2 ^ 8 + a) * 2 ^ 8 + b

unfoldable pub record_of : Message → ℕ
record_of (Probe a b) = head_of 0 a b
record_of (Response a b z) = head_of 1 a b * 2 ^ 40 + twos 40 z
record_of (Update a b z) = head_of 2 a b * 2 ^ 40 + twos 40 z
record_of (Release a b) = head_of 3 a b

-- A message as a number of 58 bits: its record, with zero bits behind it.
unfoldable pub coded : Message → ℕ
coded m = record_of m * 2 ^ (58 - bits_of m)

-- what is answered for a message: its number, where its value fits
unfoldable pub coded_of : Message → Result ℕ Refusal
coded_of m = cond (fits m) (Ok (coded m)) (Err Misfit)
