-- When a combine or a write is refused, with which number: 6, 7, 8, 9, 11 in this order. 0 is no refusal.
use Rattle.std.specs.Prelude.{◌≡◌, Bool, true, false, cond, ◌&&◌, ◌⊎◌, List, [], ◌∷◌, ℕ, ◌+◌, ◌≤◌, ◌<◌, ltb}
use Rattle.fields.specs.Usable.{usable_bits}
use Rattle.messages.specs.Records.{fits}
use Rattle.messages.specs.Writing.{bits_of_all, room_for_all}
use Rattle.messages.specs.declared.Message.{Message}
use Rattle.session.specs.Soundness.{limit, sound}
use Rattle.session.specs.declared.Session.{Session}

-- the values of all messages fit the log's 40 bits
unfoldable pub all_fit : List Message → Bool
all_fit [] = true
all_fit (m ∷ ms) = fits m && all_fit ms

-- the refusal of a request at x that says ms, to a log of len bytes, from place on
pub data Ruled (b : ℕ) (s : Session) (x len place : ℕ) (ms : List Message) : ℕ → Type 0 where
  -- the session is unsound
  unsound : sound b s ≡ false → Ruled b s x len place ms 6
  -- the node is not in the tree
  no_node : sound b s ≡ true → s.tree.count ≤ x → Ruled b s x len place ms 7
  -- 1,048,576 requests are already accepted
  no_more : sound b s ≡ true → x < s.tree.count → limit ≤ s.accepted → Ruled b s x len place ms 8
  -- the place is past the usable log, or there are too few bits for all records
  no_room : sound b s ≡ true → x < s.tree.count → s.accepted < limit → (usable_bits len < place) ⊎ (usable_bits len < place + bits_of_all ms) → Ruled b s x len place ms 9
  -- a value does not fit
  misfit : sound b s ≡ true → x < s.tree.count → s.accepted < limit → place + bits_of_all ms ≤ usable_bits len → all_fit ms ≡ false → Ruled b s x len place ms 11
  accepted : sound b s ≡ true → x < s.tree.count → s.accepted < limit → place + bits_of_all ms ≤ usable_bits len → all_fit ms ≡ true → Ruled b s x len place ms 0

-- the refusal of a request as a computation
unfoldable pub refusal_of : ℕ → Session → ℕ → ℕ → ℕ → List Message → ℕ
refusal_of b s x len place ms =
    cond (sound b s) (cond (ltb x s.tree.count) (cond (ltb s.accepted limit) (cond (room_for_all len place ms) (cond (all_fit ms) 0 11) 9) 8) 7) 6
