-- One bit of a byte list, most significant bit first: bit k is in byte k / 8.
use Rattle.std.specs.Prelude.{ℕ, ◌+◌, ◌-◌, ◌*◌, ◌/◌, ◌%◌, ◌^◌, ◌<◌, List, get_or, set}

-- every element is a byte
abbrev pub Bytes : List ℕ → Type 0
Bytes s = (i : ℕ) → get_or s i 0 < 256

-- what bit k counts in its byte
unfoldable pub weight : ℕ → ℕ
weight k = 2 ^ (7 - k % 8)

-- the binary digit of x that counts w
unfoldable pub digit : ℕ → ℕ → ℕ
digit x w = x / w % 2

-- x with its binary digit that counts w made b
unfoldable pub patch : ℕ → ℕ → ℕ → ℕ
patch x w b = x - digit x w * w + b * w

-- bit k of the bytes s, and 0 past their end
unfoldable pub bit : List ℕ → ℕ → ℕ
bit s k = digit (get_or s (k / 8) 0) (weight k)

-- the bytes s with bit k made b
unfoldable pub put_bit : List ℕ → ℕ → ℕ → List ℕ
put_bit s k b = set s (k / 8) (patch (get_or s (k / 8) 0) (weight k) b)
