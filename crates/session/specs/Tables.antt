-- What the table writer answers and leaves: 6 for an unsound session, then 9 where the room is too short.
use Rattle.std.specs.Prelude.{◌≡◌, true, false, cond, List, ℕ, ◌≤◌, ◌<◌}
use Rattle.table.specs.Layout.{table_size}
use Rattle.table.specs.Writing as table
use Rattle.table.specs.Told.{Written}
use Rattle.session.specs.Soundness.{sound}
use Rattle.session.specs.declared.Session.{Session}

-- what the table writer answers with room for so many bytes
pub data Answered (s : Session) (room : ℕ) : Written → Type 0 where
  six : sound 2 s ≡ false → Answered s room (record { refusal = 6; bytes = 0 })
  nine : sound 2 s ≡ true → room < table_size s.tree.count → Answered s room (record { refusal = 9; bytes = 0 })
  done : sound 2 s ≡ true → table_size s.tree.count ≤ room → Answered s room (record { refusal = 0; bytes = table_size s.tree.count })

-- what the table writer answers, as a computation: a sound session's tree is in rule, so its table is refused with 9 alone
unfoldable pub written_of : Session → ℕ → Written
written_of s room = cond (sound 2 s) (table.written_of s.tree room) (record { refusal = 6; bytes = 0 })

-- the output that the table writer leaves; where it refuses, the output stays as it is
unfoldable pub output_of : Session → List ℕ → List ℕ
output_of s out = cond (sound 2 s) (table.output_of s.tree out) out
