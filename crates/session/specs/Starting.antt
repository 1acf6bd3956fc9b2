-- How a session starts: fresh, or loaded from the bytes of a table.
use Rattle.std.specs.Prelude.{cond, List, ℕ, eqb, pos, replicate}
use Rattle.table.specs.Reading.{reading_of}
use Rattle.tree.specs.Parents.{in_rule}
use Rattle.tree.specs.declared.Tree.{Tree}
use Rattle.session.specs.declared.Pairs.{Pairs}
use Rattle.session.specs.declared.Session.{Session}
use Rattle.session.specs.Told.{Started}

abbrev pub empty : Pairs
empty = record { lease = replicate 256 0; cache = replicate 256 (pos 0); messages = replicate 256 0 }

-- a fresh session: zeros in all but the tree
abbrev pub fresh_of : Tree → Session
fresh_of t = record { tree = t; values = replicate 256 (pos 0); up = empty; down = empty; accepted = 0 }

-- a session of zeros alone
abbrev pub zeros : Session
zeros = fresh_of (record { count = 0; parents = replicate 256 0 })

-- what starting a session of a tree answers: a tree out of rule is refused with 6 and zeros
unfoldable pub started_of : Tree → Started
started_of t = cond (in_rule t.parents t.count) (record { refusal = 0; session = fresh_of t }) (record { refusal = 6; session = zeros })

-- what loading a table answers: where its reader refuses, the session that would be replaced is left
unfoldable pub loaded_of : Session → List ℕ → Started
loaded_of s bytes = cond (eqb (reading_of bytes).refusal 0) (record { refusal = 0; session = fresh_of (reading_of bytes).tree }) (record { refusal = (reading_of bytes).refusal; session = s })
