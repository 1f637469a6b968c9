-- Document 01, "Tape and answers": this paper's number and value for each case of an answer, and the refusals' numbers.
use Rattle.std.specs.Prelude.{ℕ, ◌+◌, ◌*◌}
use Rattle.events.specs.declared.Answer.{Answer}
use Rattle.events.specs.declared.Answer.TheVariants.{Done, Data, Vector, PassedOn, Held}
use Rattle.events.specs.declared.Refusal.{Refusal}
use Rattle.events.specs.declared.Refusal.TheVariants.{ImageLength, ImageMark, ImageRule, TapeLength, RecordMark, Kind, Operand, Serial, AnswerLength, RowLength}

-- "class (0 done, 1 data, 2 vector, 3 passed on, 4 held)"
abbrev pub class_of : Answer → ℕ
class_of Done = 0
class_of (Data v) = 1
class_of (Vector v) = 2
class_of PassedOn = 3
class_of Held = 4

-- "value (0 if none)"
abbrev pub value_of : Answer → ℕ
value_of Done = 0
value_of (Data v) = v
value_of (Vector v) = v
value_of PassedOn = 0
value_of Held = 0

-- the table's numbers, and document 02, 1/13: "10 for a row of none or more than eight"
abbrev pub number_of : Refusal → ℕ
number_of ImageLength = 1
number_of ImageMark = 2
number_of ImageRule = 3
number_of TapeLength = 4
number_of RecordMark = 5
number_of Kind = 6
number_of Operand = 7
number_of Serial = 8
number_of AnswerLength = 9
number_of RowLength = 10

-- "The C call returns 0, or 256 × index of the bad record (0 for 1 to 4 and 9) + number."
abbrev pub returned : Refusal → ℕ → ℕ
returned r i = 256 * i + number_of r
