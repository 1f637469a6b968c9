-- Document 01, "The replay program": the words of a line that take a fixed room, as bytes.
use Rattle.std.specs.Prelude.{ℕ, ◌+◌, ◌-◌, ◌/◌, ◌%◌, Bool, cond, List, [], ◌∷◌, ◌++◌, ltb}
use Prim.Native.Char.{code}
use Prim.Native.String.{String, [] as empty, ◌∷◌ as ◌then◌}
use Rattle.events.specs.declared.Answer.{Answer}
use Rattle.events.specs.declared.Answer.TheVariants.{Done, Data, Vector, PassedOn, Held}

-- the bytes of a text
abbrev pub bytes : String → List ℕ
bytes empty = []
bytes (c then s) = code c ∷ bytes s

-- a decimal digit
abbrev pub digit : ℕ → ℕ
digit d = code "0" + d

-- the capital hex digit of a number below 16: 0 to 9, A to F
abbrev pub hex_digit : ℕ → ℕ
hex_digit d = cond (ltb d 10) (digit d) (code "A" + (d - 10))

-- "two capital hex digits"
unfoldable pub hex_byte : ℕ → List ℕ
hex_byte v = hex_digit (v / 16) ∷ hex_digit (v % 16) ∷ []

-- ---- the words of a line
-- "class (D R V P H)": done, read data, vector, passed on, held
abbrev pub class_letter : Answer → ℕ
class_letter Done = code "D"
class_letter (Data v) = code "R"
class_letter (Vector v) = code "V"
class_letter PassedOn = code "P"
class_letter Held = code "H"

-- "value in two capital hex digits for R and V, else --"
abbrev pub value_text : Answer → List ℕ
value_text Done = bytes "--"
value_text (Data v) = hex_byte v
value_text (Vector v) = hex_byte v
value_text PassedOn = bytes "--"
value_text Held = bytes "--"

-- "IRQ": 0 or 1
abbrev pub irq_digit : Bool → ℕ
irq_digit irq = cond irq (code "1") (code "0")

-- "outputs in order A B C D": bit 0 is A, bit 3 is D
abbrev pub outputs_text : ℕ → List ℕ
outputs_text o = digit (o % 2) ∷ digit (o / 2 % 2) ∷ digit (o / 4 % 2) ∷ digit (o / 8 % 2) ∷ []

-- ---- together
-- the bytes of the words below, each with its space
abbrev pub middle_bytes : ℕ
middle_bytes = 2 + 3 + 2 + 5

-- a word with a space after it
abbrev pub spaced : List ℕ → List ℕ
spaced w = w ++ (code " " ∷ [])

-- "class (D R V P H), value in two capital hex digits for R and V, else --, IRQ, outputs in order A B C D", each with a space after it
unfoldable pub middle_of : Answer → Bool → ℕ → List ℕ
middle_of a irq outputs = spaced (class_letter a ∷ []) ++ (spaced (value_text a) ++ (spaced (irq_digit irq ∷ []) ++ spaced (outputs_text outputs)))
