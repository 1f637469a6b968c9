-- Document 01, "The replay program": the text of its lines, as bytes.
use Rattle.std.specs.Prelude.{ℕ, zero, suc, ◌+◌, ◌/◌, ◌%◌, ◌≤◌, ◌*◌, ◌≡◌, Bool, cond, List, [], ◌∷◌, ◌++◌, ltb, length, take, drop}
use Prim.Native.Char.{code}
use Rattle.events.specs.declared.Answer.{Answer}
use Rattle.words.specs.Words.{bytes, digit, spaced, middle_bytes, middle_of}
use Rattle.timeouts.specs.declared.Timeouts.{Timeouts}

-- ---- numbers
-- "in decimal": a number below 10 is its digit; any other is n / 10 in decimal and then the digit n % 10. No zero leads. The first argument bounds the recursion, and is enough where it is at least n.
unfoldable pub decimal_in : ℕ → ℕ → List ℕ
decimal_in zero n = digit n ∷ []
decimal_in (suc k) n =
    let more = decimal_in k (n / 10) ++ (digit (n % 10) ∷ []) in
    cond (ltb n 10) (digit n ∷ []) more

unfoldable pub decimal : ℕ → List ℕ
decimal n = decimal_in n n

-- ---- lines
-- the last word, with the end of the line after it
abbrev pub ended : List ℕ → List ℕ
ended w = w ++ (code "\n" ∷ [])

-- "four counts A to D", and the end of the line
unfoldable pub counts_of : Timeouts → List ℕ
counts_of n = spaced (decimal n.a) ++ (spaced (decimal n.b) ++ (spaced (decimal n.c) ++ ended (decimal n.d)))

-- "prints one line a record, no header: index, [..]": the index with a space after it, the words above, the counts
unfoldable pub line_of : ℕ → Answer → Bool → ℕ → Timeouts → List ℕ
line_of index a irq outputs n = spaced (decimal index) ++ (middle_of a irq outputs ++ counts_of n)

-- "A refused tape prints only `refused N INDEX`, in decimal"
unfoldable pub refused_line : ℕ → ℕ → List ℕ
refused_line number index = spaced (bytes "refused") ++ (spaced (decimal number) ++ ended (decimal index))

-- ---- the sizes of a line's parts
-- an index, at most 65,535, and the byte after it
abbrev pub index_most : ℕ
index_most = 5 + 1

-- a count, at most 4,294,967,295, and the byte after it
abbrev pub count_most : ℕ
count_most = 10 + 1

abbrev pub counts_most : ℕ
counts_most = 4 * count_most

-- a buffer of so many bytes, 64, holds every line: its parts, and two bytes to spare
abbrev pub line_most : ℕ
line_most = index_most + middle_bytes + counts_most + 2

-- ---- a line in a buffer
-- a line at the start of a buffer, the rest as it was; a buffer of fewer than `line_most` bytes stays as it was
unfoldable pub written : List ℕ → List ℕ → List ℕ
written text out = cond (ltb (length out) line_most) out (text ++ drop (length text) out)

-- how many bytes were written
unfoldable pub written_length : List ℕ → List ℕ → ℕ
written_length text out = cond (ltb (length out) line_most) 0 (length text)

-- n counts bytes at the start of a buffer. The second part follows from the first; with both, a caller's `&out[..n]` is proved by itself.
abbrev pub Counts : ℕ → List ℕ → Type 0
Counts n out = (n ≤ length out) × (n ≡ length (take n out))
