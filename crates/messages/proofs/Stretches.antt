-- Two stretches of messages, one behind the other: their bits, their sizes, and the log that they leave.
use mathlib.Core.Path.{◌≡◌, ap}
use mathlib.Core.List.{List, [], ◌∷◌, ◌++◌}
use Prim.Native.Nat.{ℕ, ◌+◌}
use native.Mathlib.Omega.{arith}
use Rattle.messages.specs.Records.{AllSized, bits_of}
use Rattle.messages.specs.Writing.{log_after, logged, bits_of_all}
use Rattle.messages.specs.declared.Message.{Message}

pub bits_append : (ms ns : List Message) → bits_of_all (ms ++ ns) ≡ bits_of_all ms + bits_of_all ns
unfolding bits_of_all
bits_append [] ns = omega arith
bits_append (m ∷ ms) ns = omega (arith, bits_append ms ns)

pub sized_append : (ms ns : List Message) → AllSized ms → AllSized ns → AllSized (ms ++ ns)
sized_append [] ns a b = b
sized_append (m ∷ ms) ns a b = (a.0, sized_append ms ns a.1 b)

pub logged_append : (log : List ℕ) (place : ℕ) (ms ns : List Message) → logged (logged log place ms) (place + bits_of_all ms) ns ≡ logged log place (ms ++ ns)
unfolding logged bits_of_all
logged_append log place [] ns = ap (λ (k : ℕ). logged log k ns) (omega arith)
logged_append log place (m ∷ ms) ns =
    let e : place + (bits_of m + bits_of_all ms) ≡ place + bits_of m + bits_of_all ms = omega arith in
    rw e (logged_append (log_after log place m) (place + bits_of m) ms ns)
