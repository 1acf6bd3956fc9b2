-- What is promised of one ordered pair. The theorem that proves a statement bears its name in small letters.
use Rattle.std.specs.Prelude.{◌≡◌, true, ◌↔◌, List, ◌∷◌, ℕ, ◌+◌, ◌*◌, ◌≤◌, length, replicate}
use Rattle.rule.specs.Pair.{Request, combine, write, number_after, messages, rounds}
use Rattle.rule.specs.Schedules.{Mode, off, Schedule, stays_off}
use Rattle.rule.specs.Configurations.{Configuration, potential}

-- Twice a pair's messages is at most five times the cost of any schedule of the same list, and the potential of the start.
abbrev pub Bound : Type 0
Bound = (m : Mode) (k : ℕ) (l : List Request) (c : ℕ) → Schedule m l c → 2 * messages 2 k l ≤ 5 * c + potential m k

-- Twice a fresh pair's messages is at most five times the cost of any schedule that starts off.
abbrev pub FiveHalves : Type 0
FiveHalves = (l : List Request) (c : ℕ) → Schedule off l c → 2 * messages 2 0 l ≤ 5 * c

-- The n rounds cost 5 n messages, for every n, and the schedule that stays off costs 2 n.
abbrev pub RoundsCost : Type 0
RoundsCost = (n : ℕ) → messages 2 0 (rounds n) ≡ 5 * n

abbrev pub RoundsOff : Type 0
RoundsOff = (n : ℕ) → (c : ℕ) × (s : Schedule off (rounds n) c) × (stays_off s ≡ true) × (c ≡ 2 * n)

-- A pair's lease number is the paper's configuration.
abbrev pub Configured : Type 0
Configured = (l : List Request) (k : ℕ) → Configuration l k ↔ (number_after 2 0 l ≡ k)

-- A lease is granted after 1 combine, and broken after b writes in a row, not sooner: Lemma 5.1, with b for 2.
abbrev pub Granted : Type 0
Granted = (b k n : ℕ) → 1 ≤ n → number_after b k (replicate n combine) ≡ b

abbrev pub BrokenExactly : Type 0
BrokenExactly = (b k n : ℕ) → (number_after b k (combine ∷ replicate n write) ≡ 0) ↔ (b ≤ n)

-- A pair's lease number is at most the break count.
abbrev pub NumberMost : Type 0
NumberMost = (b k : ℕ) (l : List Request) → k ≤ b → number_after b k l ≤ b

-- A pair's messages are at most two for each request.
abbrev pub MessagesMost : Type 0
MessagesMost = (b k : ℕ) (l : List Request) → messages b k l ≤ 2 * length l
