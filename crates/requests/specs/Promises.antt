-- What is promised of lists. The theorem that proves a statement bears its name in small letters.
use Rattle.std.specs.Prelude.{◌≡◌, List, [], ◌∷◌, ◌↔◌, ℕ, ◌≤◌, ◌<◌, length, take}
use Rattle.fields.specs.Bits.{Bytes}
use Rattle.fields.specs.Usable.{usable_bits}
use Rattle.requests.specs.Lists.{AllSized, list_of, combines_in}
use Rattle.requests.specs.Format.{Ruled}
use Rattle.requests.specs.Reading.{request_at, next_place, item_at, told, Hands, requests_of, refused, judged_of}
use Rattle.requests.specs.declared.Request.{Request}

-- The list's reader refuses exactly as the format says.
abbrev pub ListRuledExactly : Type 0
ListRuledExactly = (s : List ℕ) (r : ℕ) → ((judged_of s).refusal ≡ r) ↔ Ruled s r

-- The list's reader answers zeros where it refuses.
abbrev pub ListRefusedWithZeros : Type 0
ListRefusedWithZeros = (s : List ℕ) → 0 < (judged_of s).refusal → judged_of s ≡ refused (judged_of s).refusal

-- A longer input is judged as its first 20,995 bytes: the longest list has 20,994, and one byte more is enough to tell that bytes are left over.
abbrev pub ListFirstBytes : Type 0
ListFirstBytes = (s : List ℕ) → judged_of (take 20995 s) ≡ judged_of s

-- Of an accepted list the reader tells how many requests there are, and how many of them are combines.
abbrev pub CountsRight : Type 0
CountsRight = (s : List ℕ) → (judged_of s).refusal ≡ 0 → ((judged_of s).requests ≡ length (requests_of s)) × ((judged_of s).combines ≡ combines_in (requests_of s))

-- Bytes are accepted as these requests exactly where they are the bytes of their list.
abbrev pub ListExactly : Type 0
ListExactly = (s : List ℕ) (rs : List Request) → Bytes s → AllSized rs → length rs ≤ 4096 → (((judged_of s).refusal ≡ 0) × (requests_of s ≡ rs)) ↔ (s ≡ list_of rs)

-- The bytes of a list of up to 4,096 requests are read as these requests.
abbrev pub ListReadsBack : Type 0
ListReadsBack = (rs : List Request) → AllSized rs → length rs ≤ 4096 → ((judged_of (list_of rs)).refusal ≡ 0) × (requests_of (list_of rs) ≡ rs)

-- A request that is read has a byte for its node and 32 bits for its value.
abbrev pub ReadSized : Type 0
ReadSized = (s : List ℕ) → AllSized (requests_of s)

-- A request is found at a place exactly where all of it lies in the usable bytes.
abbrev pub ItemExactly : Type 0
ItemExactly = (s : List ℕ) (place next : ℕ) (r : Request) → (told (item_at s place) ≡ (0, (r, next) ∷ [])) ↔ ((next_place s place ≤ usable_bits (length s)) × (r ≡ request_at s place) × (next ≡ next_place s place))

-- At a place 1 is answered exactly where not all of the request lies in the usable bytes.
abbrev pub ItemShortExactly : Type 0
ItemShortExactly = (s : List ℕ) (place : ℕ) → (told (item_at s place) ≡ (1, [])) ↔ (usable_bits (length s) < next_place s place)

-- The requests of an accepted list are handed out one behind the other, from its first place on.
abbrev pub HandedOut : Type 0
HandedOut = (s : List ℕ) → (judged_of s).refusal ≡ 0 → Hands s (judged_of s).first (requests_of s)
