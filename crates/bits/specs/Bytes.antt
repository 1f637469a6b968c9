-- Bytes in a list, and a number in four of them.
use Rattle.std.specs.Prelude.{ℕ, ◌+◌, ◌*◌, ◌/◌, ◌%◌, List, ◌∷◌, get_or}

-- the byte of index k; past the end 0
abbrev pub byte : List ℕ → ℕ → ℕ
byte b k = get_or b k 0

-- "four bytes, high byte first": a number's, before the rest
abbrev pub four : ℕ → List ℕ → List ℕ
four n rest = n / 16777216 % 256 ∷ n / 65536 % 256 ∷ n / 256 % 256 ∷ n % 256 ∷ rest

-- and the number of four bytes
unfoldable pub number : ℕ → ℕ → ℕ → ℕ → ℕ
number p q r s = p * 16777216 + q * 65536 + r * 256 + s
