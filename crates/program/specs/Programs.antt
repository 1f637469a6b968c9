-- Document 01, "The replay program": what is read of the input, and written for it.
use Rattle.std.specs.Prelude.{ℕ, ◌≤◌, ◌≡◌, List, length, Option, Result, Ok, Err}
use Rattle.std.specs.Borrow.{Bor, MutBor}
use Rattle.std.specs.Io.KnownBytes.{Consumes, Appends, IsAtEnd}
use Rattle.device.specs.Whole.{fresh_device}
use Rattle.program.specs.declared.Failure.{Failure}
use Rattle.program.specs.declared.Failure.TheVariants.{Input, Output}
use Rattle.words.specs.Words.{bytes}
use Rattle.text.specs.Lines.{Counts}
use Rattle.tape.specs.Tapes.{tape_most}
use Rattle.transcript.specs.Transcript.{transcript_of, printed, printed_length}

-- what a function with these results prints, of any tape and in any buffer, is the tape's text from a fresh device, its length given
abbrev pub PrintsTranscript : (Bor (List ℕ) → MutBor (List ℕ) → ℕ → MutBor (List ℕ) → Type 0) → Type 0
PrintsTranscript post = (tape : Bor (List ℕ)) (out : MutBor (List ℕ)) (n : ℕ) (after : MutBor (List ℕ)) → post tape out n after
    → (n ≡ printed_length (transcript_of fresh_device tape.now) out.now) × (after.now ≡ printed (transcript_of fresh_device tape.now) out.now) × Counts n after.now

-- "It reads a tape from standard input, starts fresh, and prints [..]": the tape is what the input loses, which is all of it unless that is too long for a tape; the text of the tape is what the output gains
pub record Replayed (input input_after output output_after : Option (List ℕ)) : Type 0 where
  pub tape : List ℕ
  pub taken : Consumes input input_after tape
  pub whole : length tape ≤ tape_most → IsAtEnd input_after
  pub text : Appends output output_after (transcript_of fresh_device tape)

-- D94: why a program fails
abbrev pub reason : Failure → List ℕ
reason Input = bytes "the input could not be read"
reason Output = bytes "not all of the output was written"

-- D94: its status, 0 of a whole output, and else 1
abbrev pub status_of : Result (Unit {0}) Failure → ℕ
status_of (Ok done) = 0
status_of (Err why) = 1
