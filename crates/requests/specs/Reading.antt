-- What the reader finds at a place of a list, and what it answers of the whole, as a computation.
use Rattle.std.specs.Prelude.{◌≡◌, Bool, cond, List, [], ◌∷◌, ℕ, zero, suc, ◌+◌, ◌*◌, eqb, leb, length, Result, Ok, Err}
use Rattle.refusal.specs.Numbers.{number}
use Rattle.refusal.specs.declared.Refusal.{Refusal}
use Rattle.refusal.specs.declared.Refusal.TheVariants.{Short}
use Rattle.fields.specs.Fields.{field}
use Rattle.fields.specs.Usable.{usable_bits}
use Rattle.twos.specs.Twos.{signed}
use Rattle.packed.specs.Parts.{ends}
use Rattle.requests.specs.Lists.{one_if_combine}
use Rattle.requests.specs.declared.Request.{Request}
use Rattle.requests.specs.declared.Request.TheVariants.{Combine, Write}
use Rattle.requests.specs.Told.{Judged}

-- ---- one request

abbrev pub is_combine : List ℕ → ℕ → Bool
is_combine s place = eqb (field s place 1) 0

-- the request at a place, and the place after it: past the end every bit reads 0, so a request that is cut off ends past the end
unfoldable pub request_at : List ℕ → ℕ → Request
request_at s place = cond (is_combine s place) (Combine (field s (place + 1) 8)) (Write (field s (place + 1) 8) (signed 32 (field s (place + 9) 32)))

unfoldable pub next_place : List ℕ → ℕ → ℕ
next_place s place = place + cond (is_combine s place) 9 41

-- what reading a request answers: the request and the place after it, or a refusal
abbrev pub Item : Type 0
Item = Result (Request × ℕ) Refusal

unfoldable pub item_at : List ℕ → ℕ → Item
item_at s place = cond (leb (next_place s place) (usable_bits (length s))) (Ok (request_at s place, next_place s place)) (Err Short)

-- document 01's number for what was found, and the request with the next place if there is one
abbrev pub told : Item → ℕ × List (Request × ℕ)
told (Ok x) = (0, x ∷ [])
told (Err r) = (number r, [])

-- from place on the reader hands out these requests one behind the other
abbrev pub Hands : List ℕ → ℕ → List Request → Type 0
Hands s place [] = Unit
Hands s place (r ∷ rs) = (next : ℕ) × (told (item_at s place) ≡ (0, (r, next) ∷ [])) × Hands s next rs

-- ---- the list

abbrev pub count_at : List ℕ → ℕ
count_at s = field s 0 13

-- where request k stands, counted from 0; place_of s n is where n requests end
unfoldable pub place_of : List ℕ → ℕ → ℕ
place_of s zero = 13
place_of s (suc k) = next_place s (place_of s k)

-- k requests from a place on, and all requests of the list
unfoldable pub requests_from : List ℕ → ℕ → ℕ → List Request
requests_from s place zero = []
requests_from s place (suc k) = request_at s place ∷ requests_from s (next_place s place) k

abbrev pub requests_of : List ℕ → List Request
requests_of s = requests_from s 13 (count_at s)

-- how many of the first k requests are combines
unfoldable pub combines_to : List ℕ → ℕ → ℕ
combines_to s zero = 0
combines_to s (suc k) = combines_to s k + one_if_combine (request_at s (place_of s k))

-- the fault of requests that end at a place: 1 where the list ends before them, 4 where more is left than zero bits to the byte
abbrev pub end_fault : List ℕ → ℕ → ℕ
end_fault s place = cond (leb place (8 * length s)) (cond (ends s place) 0 4) 1

unfoldable pub refusal_of : List ℕ → ℕ
refusal_of s = cond (leb 13 (8 * length s)) (cond (leb (count_at s) 4096) (end_fault s (place_of s (count_at s))) 5) 1

-- what judging a list answers: 0 and the numbers, or a refusal and zeros
abbrev pub refused : ℕ → Judged
refused r = record { refusal = r; requests = 0; combines = 0; first = 0 }

abbrev pub verdict : ℕ → ℕ → ℕ → Judged
verdict zero n c = record { refusal = 0; requests = n; combines = c; first = 13 }
verdict (suc r) n c = refused (suc r)

unfoldable pub judged_of : List ℕ → Judged
judged_of s = verdict (refusal_of s) (count_at s) (combines_to s (count_at s))
