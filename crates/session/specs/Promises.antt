-- What is promised of sessions. The theorem that proves a statement bears its name in small letters.
use Rattle.std.specs.Prelude.{◌≡◌, true, List, ◌++◌, ◌↔◌, ℕ, ◌≤◌, ◌<◌, length, take, drop}
use Rattle.fields.specs.Bits.{Bytes}
use Rattle.table.specs.Reading.{reading_of, accepted}
use Rattle.table.specs.Told.{Written}
use Rattle.tree.specs.Parents.{InRule}
use Rattle.tree.specs.declared.Tree.{Tree}
use Rattle.session.specs.Holding.{Typed}
use Rattle.session.specs.Soundness.{Sound, sound}
use Rattle.session.specs.Starting.{fresh_of, zeros, started_of, loaded_of}
use Rattle.session.specs.Tables.{Answered, written_of, output_of}
use Rattle.session.specs.declared.Session.{Session}

-- The test of a session holds exactly where the session is sound.
abbrev pub SoundExactly : Type 0
SoundExactly = (b : ℕ) (s : Session) → (sound b s ≡ true) ↔ Sound b s

-- A fresh session of a tree in rule is sound.
abbrev pub FreshSound : Type 0
FreshSound = (b : ℕ) (t : Tree) → InRule t.parents t.count → Sound b (fresh_of t)

-- A tree is refused exactly where it is out of rule, with 6 and zeros.
abbrev pub FreshExactly : Type 0
FreshExactly = (t : Tree) → ((started_of t).refusal ≡ 0) ↔ InRule t.parents t.count

abbrev pub FreshRefusedWithZeros : Type 0
FreshRefusedWithZeros = (t : Tree) → 0 < (started_of t).refusal → started_of t ≡ record { refusal = 6; session = zeros }

-- Loading refuses as the table's reader does, and then leaves the session it would replace.
abbrev pub LoadRefuses : Type 0
LoadRefuses = (s : Session) (bytes : List ℕ) → 0 < (reading_of bytes).refusal → loaded_of s bytes ≡ record { refusal = (reading_of bytes).refusal; session = s }

-- An accepted table loads as a fresh session of its tree, which is in rule.
abbrev pub LoadAccepts : Type 0
LoadAccepts = (s : Session) (bytes : List ℕ) (t : Tree) → reading_of bytes ≡ accepted t → (loaded_of s bytes ≡ record { refusal = 0; session = fresh_of t }) × InRule t.parents t.count

-- A table that was loaded writes back to its own bytes, with later bytes as they were.
abbrev pub LoadedWritesBack : Type 0
LoadedWritesBack = (s : Session) (bytes out : List ℕ) → Bytes bytes → (loaded_of s bytes).refusal ≡ 0 → length bytes ≤ length out
    → (written_of (loaded_of s bytes).session (length out) ≡ record { refusal = 0; bytes = length bytes }) × (output_of (loaded_of s bytes).session out ≡ bytes ++ drop (length bytes) out)

-- The table that is written of a sound session loads as a fresh session of its tree.
abbrev pub WrittenLoadsBack : Type 0
WrittenLoadsBack = (s o : Session) (out : List ℕ) → Typed s → (written_of s (length out)).refusal ≡ 0
    → loaded_of o (take (written_of s (length out)).bytes (output_of s out)) ≡ record { refusal = 0; session = fresh_of s.tree }

-- A session's table writer refuses exactly as document 01 says.
abbrev pub SessionWrittenExactly : Type 0
SessionWrittenExactly = (s : Session) (room : ℕ) (w : Written) → (written_of s room ≡ w) ↔ Answered s room w

-- A session's table writer changes nothing where it refuses.
abbrev pub SessionOutputKept : Type 0
SessionOutputKept = (s : Session) (out : List ℕ) → 0 < (written_of s (length out)).refusal → output_of s out ≡ out
