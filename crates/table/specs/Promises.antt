-- What is promised of tables. The theorem that proves a statement bears its name in small letters.
use Rattle.std.specs.Prelude.{◌≡◌, true, List, ◌++◌, ◌↔◌, ℕ, ◌^◌, ◌*◌, ◌+◌, ◌≤◌, ◌<◌, length, take, drop}
use Rattle.fields.specs.Bits.{Bytes}
use Rattle.tree.specs.Parents.{in_rule}
use Rattle.tree.specs.declared.Tree.{Tree}
use Rattle.table.specs.Layout.{long}
use Rattle.table.specs.Format.{Ruled}
use Rattle.table.specs.Reading.{accepted, refused, reading_of}
use Rattle.table.specs.Writing.{table_of, Answered, written_of, output_of}
use Rattle.table.specs.Told.{Written}

-- A parent field is as wide as it must be and no wider: k + 1 numbers have room in it, and half as many would be too few.
abbrev pub WidthExactly : Type 0
WidthExactly = (k : ℕ) → k < 2 ^ 64 → (k < 2 ^ long k) × (2 ^ long k ≤ 2 * k + 1)

-- The table's reader refuses exactly as the format says.
abbrev pub TableRuledExactly : Type 0
TableRuledExactly = (s : List ℕ) (r : ℕ) → ((reading_of s).refusal ≡ r) ↔ Ruled s r

-- The table's reader answers zeros where it refuses.
abbrev pub TableRefusedWithZeros : Type 0
TableRefusedWithZeros = (s : List ℕ) → 0 < (reading_of s).refusal → reading_of s ≡ refused (reading_of s).refusal

-- A longer input reads as its first 226 bytes: the longest table has 225, and one byte more is enough to tell that bytes are left over.
abbrev pub TableFirstBytes : Type 0
TableFirstBytes = (s : List ℕ) → reading_of (take 226 s) ≡ reading_of s

-- Bytes are read as a tree exactly where the tree is in rule and the bytes are its table.
abbrev pub TableExactly : Type 0
TableExactly = (s : List ℕ) (t : Tree) → Bytes s → length t.parents ≡ 256 → (reading_of s ≡ accepted t) ↔ ((in_rule t.parents t.count ≡ true) × (s ≡ table_of t))

-- What the writer writes, into any output that is long enough, the reader reads back as the same tree.
abbrev pub TableReadsBack : Type 0
TableReadsBack = (t : Tree) (out : List ℕ) → length t.parents ≡ 256 → (written_of t (length out)).refusal ≡ 0
    → reading_of (take (written_of t (length out)).bytes (output_of t out)) ≡ accepted t

-- An accepted table writes back to its own bytes, with later bytes as they were.
abbrev pub TableWritesBack : Type 0
TableWritesBack = (s : List ℕ) (t : Tree) (out : List ℕ) → Bytes s → reading_of s ≡ accepted t → length s ≤ length out
    → (written_of t (length out) ≡ record { refusal = 0; bytes = length s }) × (output_of t out ≡ s ++ drop (length s) out)

-- The table's writer refuses exactly as document 01 says.
abbrev pub TableWrittenExactly : Type 0
TableWrittenExactly = (t : Tree) (room : ℕ) (w : Written) → (written_of t room ≡ w) ↔ Answered t room w

-- The table's writer changes nothing where it refuses.
abbrev pub RefusedOutputKept : Type 0
RefusedOutputKept = (t : Tree) (out : List ℕ) → 0 < (written_of t (length out)).refusal → output_of t out ≡ out
