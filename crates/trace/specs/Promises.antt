-- What is promised of traces. The theorem that proves a statement bears its name in small letters.
use Rattle.std.specs.Prelude.{◌≡◌, List, ◌↔◌, ℕ, ◌+◌, ◌≤◌, ◌<◌, length}
use Rattle.fields.specs.Usable.{usable_bits}
use Rattle.messages.specs.Records.{AllSized}
use Rattle.messages.specs.Writing.{bits_of_all}
use Rattle.messages.specs.declared.Message.{Message}
use Rattle.refusal.specs.Numbers.{told}
use Rattle.trace.specs.inner.Traces.{trace, pushed_all, messages_of, logged_of, log_after_all}

-- What was pushed to an empty trace, at most 510 messages that fit their records, is what it holds.
abbrev pub TraceHolds : Type 0
TraceHolds = (ms : List Message) (ns numbers : List ℕ) (len : ℕ) → AllSized ms → length ms ≤ 510 → length ns ≡ 510 → trace numbers len ≡ pushed_all ms (trace ns 0)
    → (len ≡ length ms) × (messages_of numbers len ≡ ms)

-- A trace's messages are logged exactly where there is room for all their records.
abbrev pub TraceLoggedExactly : Type 0
TraceLoggedExactly = (n place next : ℕ) (ms : List Message) → (told 0 (logged_of n place ms) ≡ (0, next)) ↔ ((place + bits_of_all ms ≤ usable_bits n) × (next ≡ place + bits_of_all ms))

-- A trace's messages are refused with 9 exactly where there is no room for all their records; then the log stays as it was.
abbrev pub TraceFullExactly : Type 0
TraceFullExactly = (n place : ℕ) (ms : List Message) → (told 0 (logged_of n place ms) ≡ (9, 0)) ↔ (usable_bits n < place + bits_of_all ms)

abbrev pub TraceLogKept : Type 0
TraceLogKept = (log : List ℕ) (place : ℕ) (ms : List Message) → usable_bits (length log) < place + bits_of_all ms → log_after_all log place ms ≡ log
