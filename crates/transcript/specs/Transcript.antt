-- Document 01, "The replay program": its whole text for a tape, as bytes, and that text in a buffer.
use Rattle.std.specs.Prelude.{ℕ, ◌+◌, ◌*◌, ◌/◌, cond, List, [], ◌∷◌, ◌++◌, ltb, length, drop, Result, Ok, Err}
use Rattle.events.specs.Numbers.{number_of}
use Rattle.events.specs.declared.Event.{Event}
use Rattle.events.specs.declared.RefusedAt.{RefusedAt}
use Rattle.device.specs.declared.Device.{Device}
use Rattle.device.specs.declared.Stepped.{Stepped}
use Rattle.device.specs.Whole.{irq_of, shown_outputs}
use Rattle.step.specs.Events.{step_of}
use Rattle.record.specs.Records.{record_bytes}
use Rattle.answer.specs.Answers.{answer_bytes}
use Rattle.text.specs.Lines.{line_most, line_of, refused_line}
use Rattle.tape.specs.Tapes.{tape_most, records, events_of}
use Rattle.checks.specs.Checks.{checked}

-- ---- sizes
-- the records of the longest tape: 512
abbrev pub records_most : ℕ
records_most = tape_most / record_bytes

-- room for their lines: a buffer of so many bytes, 32,768, holds every transcript
abbrev pub enough : ℕ
enough = records_most * line_most

-- ---- the lines of an accepted tape
-- "one line a record": its answer and its timeout counts, and IRQ and outputs after it
unfoldable pub step_line : ℕ → Stepped → List ℕ
step_line i s = line_of i s.answer (irq_of s.device) (shown_outputs s.device) s.timeouts

-- the lines of events one after the other from a device, the first of index i
unfoldable pub lines_of : ℕ → Device → List Event → List ℕ
lines_of i d [] = []
lines_of i d (e ∷ es) = step_line i (step_of d e) ++ lines_of (i + 1) (step_of d e).device es

-- ---- the whole text
-- what the check finds. The answers have all the room they need, so refusal 9 is never given; "input longer than 4,096 bytes is refusal 4".
unfoldable pub check_of : List ℕ → Result (Unit {0}) RefusedAt
check_of tape = checked tape (answer_bytes * records tape)

-- "prints one line a record, no header"; "A refused tape prints only `refused N INDEX`"
abbrev pub text_of : Device → List Event → Result (Unit {0}) RefusedAt → List ℕ
text_of start es (Ok passed) = lines_of 0 start es
text_of start es (Err at) = refused_line (number_of at.refusal) at.index

-- "It reads a tape from standard input, starts fresh, and prints one line a record"; "An empty input prints nothing." The device that it starts from is the first argument: the replay program's is a fresh one.
unfoldable pub transcript_of : Device → List ℕ → List ℕ
transcript_of start tape = text_of start (events_of tape) (check_of tape)

-- ---- the text in a buffer
-- a text at the start of a buffer, the rest as it was; a buffer that is too short for some transcript stays as it was
unfoldable pub printed : List ℕ → List ℕ → List ℕ
printed text out = cond (ltb (length out) enough) out (text ++ drop (length text) out)

-- how many bytes were printed
unfoldable pub printed_length : List ℕ → List ℕ → ℕ
printed_length text out = cond (ltb (length out) enough) 0 (length text)
