-- A session's requests: what they say and answer, and the session after them.
use Rattle.std.specs.Prelude.{List, ℕ, ◌+◌, ℤ, pos, set}
use Rattle.tree.specs.Operation.{Op}
use Rattle.rule.specs.Pair as pair
use Rattle.requests.specs.declared.Request.{Request}
use Rattle.requests.specs.declared.Request.TheVariants.{Combine, Write}
use Rattle.messages.specs.declared.Message.{Message}
use Rattle.session.specs.declared.Session.{Session}
use Rattle.mechanism.specs.Views.{view}
use Rattle.mechanism.specs.Combining.{Said, said, combine}
use Rattle.mechanism.specs.Spreading.{write}
use Rattle.mechanism.specs.Applying.{Links, applied, raised}

-- the session with z as the value of x
abbrev pub valued : Session → ℕ → ℤ → Session
valued s x z = record { tree = s.tree; values = set s.values x z; up = s.up; down = s.down; accepted = s.accepted }

-- the sum and the messages of a combine at x, and the messages of a write of z at x
unfoldable pub combines : Op ℤ → Session → ℕ → Said
combines op s x = combine op (view s) x

unfoldable pub writes : Op ℤ → Session → ℕ → ℤ → List Message
writes op s x z = write op (view (valued s x z)) x

abbrev pub links_of : Session → Links
links_of s = record { up = s.up; down = s.down }

-- the session with these pairs, and one more request accepted
abbrev pub relinked : Session → Links → Session
relinked s l = record { tree = s.tree; values = s.values; up = l.up; down = l.down; accepted = s.accepted + 1 }

-- the session after a combine, where every pair that points to x has number b, with or without a message, and after a write
unfoldable pub after_combine : Op ℤ → ℕ → Session → ℕ → Session
after_combine op b s x = relinked s (raised s.tree.parents s.tree.count b x (applied (combines op s x).log (links_of s)))

unfoldable pub after_write : Op ℤ → Session → ℕ → ℤ → Session
after_write op s x z = relinked (valued s x z) (applied (writes op s x z) (links_of s))

-- ---- a combine or a write

-- the kind of a request
abbrev pub kind_of : Request → pair.Request
kind_of (Combine x) = pair.combine
kind_of (Write x z) = pair.write

-- what a request answers and says, and the session after it; 0 is the answer of a write
abbrev pub says : Op ℤ → Session → Request → Said
says op s (Combine x) = combines op s x
says op s (Write x z) = said (pos 0) (writes op s x z)

abbrev pub after : Op ℤ → ℕ → Session → Request → Session
after op b s (Combine x) = after_combine op b s x
after op b s (Write x z) = after_write op s x z
