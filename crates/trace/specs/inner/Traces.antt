-- A trace: the messages of a request as numbers, and the log that it is written to.
use Rattle.std.specs.Prelude.{cond, ◌&&◌, List, [], ◌∷◌, ◌++◌, ℕ, zero, suc, ◌+◌, min, ltb, get_or, set, replicate, length, Result, Ok, Err}
use Rattle.std.specs.Result.{result_unwrap_or}
use Rattle.refusal.specs.declared.Refusal.{Refusal}
use Rattle.refusal.specs.declared.Refusal.TheVariants.{NoRoom}
use Rattle.messages.specs.Records.{fits, coded}
use Rattle.messages.specs.Reading.{decoded}
use Rattle.messages.specs.Writing.{recorded_of, log_after, logged, bits_of_all, room_for_all}
use Rattle.messages.specs.declared.Message.{Message}
use Rattle.trace.specs.declared.Trace.{Trace}

-- the trace of so many of these numbers
abbrev pub trace : List ℕ → ℕ → Trace
trace ns k = record { numbers = ns; len = k }

-- the trace of no message
abbrev pub empty : Trace
empty = trace (replicate 510 0) 0

-- the trace with one message more; none is added where its value does not fit 40 bits, or the trace is full
unfoldable pub pushed : Message → Trace → Trace
pushed m t = cond (fits m && ltb t.len 510) (trace (set t.numbers t.len (coded m)) (t.len + 1)) t

unfoldable pub pushed_all : List Message → Trace → Trace
pushed_all [] t = t
pushed_all (m ∷ ms) t = pushed_all ms (pushed m t)

-- the first k messages of a trace
unfoldable pub messages_in : List ℕ → ℕ → List Message
messages_in ns zero = []
messages_in ns (suc k) = messages_in ns k ++ (decoded (get_or ns k 0) ∷ [])

-- the messages of a trace
abbrev pub messages_of : List ℕ → ℕ → List Message
messages_of ns len = messages_in ns (min len 510)

-- what logging messages answers: the place after the last record, where there is room for all; else 9: the place is past the usable log, or there are too few bits for all records
unfoldable pub logged_of : ℕ → ℕ → List Message → Result ℕ Refusal
logged_of n place ms = cond (room_for_all n place ms) (Ok (place + bits_of_all ms)) (Err NoRoom)

-- the log with the records of all messages; as it was where there is no room for all
unfoldable pub log_after_all : List ℕ → ℕ → List Message → List ℕ
log_after_all log place ms = cond (room_for_all (length log) place ms) (logged log place ms) log

-- ---- logging message by message

-- a log, and the place of the next record in it
pub record Writing : Type 0 where
  pub log : List ℕ
  pub place : ℕ

abbrev pub writing : List ℕ → ℕ → Writing
writing s at = record { log = s; place = at }

-- a log after one message was written, and after messages were written one by one; the place stays as it was where a message was refused
abbrev pub noted : Message → Writing → Writing
noted m w = writing (log_after w.log w.place m) (result_unwrap_or (recorded_of (length w.log) w.place m) w.place)

unfoldable pub noted_all : List Message → Writing → Writing
noted_all [] w = w
noted_all (m ∷ ms) w = noted_all ms (noted m w)
