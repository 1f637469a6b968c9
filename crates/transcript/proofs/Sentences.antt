-- The paper's sentences on what the replay program prints, as theorems. Assumes nothing.
use Prim.Native.Nat.{ℕ, ◌*◌, ◌%◌, ◌<◌}
use mathlib.Core.Path.{◌≡◌, refl, ap}
use mathlib.Core.List.{List, []}
use lib.ListN.{length}
use native.Mathlib.Omega.{arith}
use Rattle.std.specs.Prelude.{Result, Ok, Err}
use Rattle.events.specs.declared.RefusedAt.{RefusedAt}
use Rattle.events.specs.Numbers.{number_of}
use Rattle.device.specs.declared.Device.{Device}
use Rattle.record.specs.Records.{record_bytes}
use Rattle.answer.specs.Answers.{answer_bytes}
use Rattle.checks.proofs.Checks.{number_low, uneven, too_long}
use Rattle.text.specs.Lines.{decimal_in, decimal, refused_line}
use Rattle.words.specs.Words.{bytes}
use Rattle.tape.specs.Tapes.{tape_most, fitting, records, events, events_of}
use Rattle.checks.specs.Checks.{first_bad, checked, result_code, tape_result}
use Rattle.transcript.specs.Transcript.{lines_of, check_of, text_of, transcript_of}

-- "An empty input prints nothing."
pub empty_input : (start : Device) → transcript_of start [] ≡ []
unfolding transcript_of check_of checked fitting first_bad events lines_of
empty_input start = refl

-- refusal 4
refusal_4 : (start : Device) (tape : List ℕ) → tape_result tape (answer_bytes * records tape) ≡ 4 → transcript_of start tape ≡ bytes "refused 4 0\n"
unfolding transcript_of check_of refused_line decimal decimal_in
refusal_4 start tape e = go (checked tape (answer_bytes * records tape)) e
  where
    go : (c : Result (Unit {0}) RefusedAt) → result_code c ≡ 4 → text_of start (events_of tape) c ≡ bytes "refused 4 0\n"
    go (Ok u) p = absurd (omega arith)
    go (Err x) p =
        let l = number_low x.refusal in
        let n : number_of x.refusal ≡ 4 = omega arith in
        let i : x.index ≡ 0 = omega arith in
        rw (n, i) refl

-- "input longer than 4,096 bytes is refusal 4"
pub too_long_input : (start : Device) (tape : List ℕ) → tape_most < length tape → transcript_of start tape ≡ bytes "refused 4 0\n"
too_long_input start tape h = refusal_4 start tape (ap result_code (too_long tape (answer_bytes * records tape) h))

-- "tape length not a multiple of 8"
pub uneven_input : (start : Device) (tape : List ℕ) → (length tape % record_bytes ≡ 0 → ⊥) → transcript_of start tape ≡ bytes "refused 4 0\n"
uneven_input start tape h = refusal_4 start tape (ap result_code (uneven tape (answer_bytes * records tape) h))
