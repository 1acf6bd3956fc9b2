-- A list of requests as data, and as bytes: each request is one field of 9 or 41 bits.
use Rattle.std.specs.Prelude.{◌≡◌, true, List, [], ◌∷◌, ℕ, ◌+◌, ◌*◌, ◌^◌, ◌<◌, length}
use Rattle.twos.specs.Twos.{twos, within}
use Rattle.packed.specs.Parts.{Part, packed}
use Rattle.requests.specs.declared.Request.{Request}
use Rattle.requests.specs.declared.Request.TheVariants.{Combine, Write}

-- the node that a request is at
abbrev pub node_of : Request → ℕ
node_of (Combine node) = node
node_of (Write node value) = node

-- the value that a request writes fits 32 bits
abbrev pub Small : Request → Type 0
Small (Combine node) = Unit
Small (Write node value) = within 32 value ≡ true

-- the node of a request is a byte, and the value that it writes fits 32 bits
abbrev pub Sized : Request → Type 0
Sized r = (node_of r < 256) × Small r

abbrev pub AllSized : List Request → Type 0
AllSized [] = Unit
AllSized (r ∷ rs) = Sized r × AllSized rs

-- a request as one field: 1 bit (0 combine, 1 write), the node in 8, and for a write the value in 32, two's complement
abbrev pub part_of : Request → Part
part_of (Combine node) = record { width = 9; number = node }
part_of (Write node value) = record { width = 41; number = (2 ^ 8 + node) * 2 ^ 32 + twos 32 value }

abbrev pub parts_of : List Request → List Part
parts_of [] = []
parts_of (r ∷ rs) = part_of r ∷ parts_of rs

-- the fields of a list, and its bytes: the count in 13 bits, then each request
abbrev pub list_parts : List Request → List Part
list_parts rs = record { width = 13; number = length rs } ∷ parts_of rs

abbrev pub list_of : List Request → List ℕ
list_of rs = packed (list_parts rs)

-- how many requests are combines
abbrev pub one_if_combine : Request → ℕ
one_if_combine (Combine node) = 1
one_if_combine (Write node value) = 0

unfoldable pub combines_in : List Request → ℕ
combines_in [] = 0
combines_in (r ∷ rs) = one_if_combine r + combines_in rs
