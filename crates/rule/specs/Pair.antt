-- One ordered pair (u,v) by itself: its own list of requests, its lease number and its messages. The number goes from 0 up to the break count b, which is 2 for the rule.
use Rattle.std.specs.Prelude.{ℕ, zero, suc, ◌+◌, Bool, true, false, List, [], ◌∷◌}

-- a request of the pair's own list: a combine on v's side of the edge, or a write on u's side
pub data Request : Type 0 where
  combine : Request
  write : Request

-- a request at a node in front of the pair's own list; the test says whether the node is on u's side
unfoldable pub belongs : Request → Bool → List Request → List Request
belongs combine true l = l
belongs combine false l = combine ∷ l
belongs write true l = write ∷ l
belongs write false l = l

-- the pair's own list: of all accepted requests, in order, the combines on v's side and the writes on u's side
unfoldable pub own : {Q : Type 0} → (Q → Request) → (Q → Bool) → List Q → List Request
own kind near [] = []
own kind near (q ∷ l) = belongs (kind q) (near q) (own kind near l)

-- the lease number after a request: a combine sets it, a write lowers it
unfoldable pub next : ℕ → ℕ → Request → ℕ
next b k combine = b
next b zero write = 0
next b (suc k) write = k

-- the messages of a request: probe and response where there is no lease; update where there is one, and release where it ends
unfoldable pub price : ℕ → Request → ℕ
price zero combine = 2
price (suc k) combine = 0
price zero write = 0
price (suc zero) write = 2
price (suc (suc k)) write = 1

-- the number after a list of requests, from the number k on
unfoldable pub number_after : ℕ → ℕ → List Request → ℕ
number_after b k [] = k
number_after b k (r ∷ l) = number_after b (next b k r) l

-- the messages of a list of requests, from the number k on
unfoldable pub messages : ℕ → ℕ → List Request → ℕ
messages b k [] = 0
messages b k (r ∷ l) = price k r + messages b (next b k r) l

-- n rounds of combine, write, write
unfoldable pub rounds : ℕ → List Request
rounds zero = []
rounds (suc n) = combine ∷ write ∷ write ∷ rounds n
