-- Where the fields of a table lie: the node count in 9 bits, then for each node from 1 up its parent, as wide as the node's number less one is long in binary. The places depend on the node alone.
use Rattle.std.specs.Prelude.{ℕ, zero, suc, ◌+◌, ◌-◌, List}
use Rattle.std.specs.Int.Count.{count_leading_zeros}
use Rattle.fields.specs.Fields.{field}
use Rattle.packed.specs.Parts.{bytes_for}

-- how long k is in binary; 0 has no digits
unfoldable pub long : ℕ → ℕ
long k = 64 - count_leading_zeros 64 k

-- where the parent of node k + 1 begins; parent_place (n - 1) is where the fields of n nodes end
unfoldable pub parent_place : ℕ → ℕ
parent_place zero = 9
parent_place (suc k) = parent_place k + long k

-- how many bytes the table of n nodes takes
abbrev pub table_size : ℕ → ℕ
table_size n = bytes_for (parent_place (n - 1))

-- the count that stands in a table, and the parent of node k + 1
abbrev pub count_at : List ℕ → ℕ
count_at s = field s 0 9

abbrev pub parent_at : List ℕ → ℕ → ℕ
parent_at s k = field s (parent_place k) (long k)
