-- The whole text in its buffer: refused, one line; accepted, the lines of its records. Assumes nothing.
use Prim.Native.Nat.{ℕ, zero-le, ◌*◌, ◌/◌, ◌%◌, ◌≤◌, ◌<◌}
use mathlib.Core.Path.{◌≡◌, refl, sym, ap, ◌∙◌}
use mathlib.Core.Bool.{true}
use mathlib.Core.List.{List, ◌++◌}
use native.Mathlib.Omega.{arith}
use lib.ListN.{length, drop}
use borrow.Author.Tests.{lt-ltb, le-ltb, le-leb, eq-eqb}
use Rattle.std.specs.Prelude.{Result, Ok, Err}
use Rattle.events.specs.Numbers.{number_of}
use Rattle.events.specs.declared.RefusedAt.{RefusedAt}
use Rattle.bits.proofs.Bits.{joined}
use Rattle.checks.proofs.Checks.{number_low, let_through}
use Rattle.device.specs.declared.Device.{Device}
use Rattle.device.specs.Whole.{fresh_device}
use Rattle.text.specs.Lines.{refused_line, written, written_length, Counts}
use Rattle.text.proofs.Whole.{counts, length_long, written_long}
use Rattle.tape.specs.Tapes.{fitting, records, events_of}
use Rattle.checks.specs.Checks.{first_bad, checked, result_code, tape_result}
use Rattle.transcript.specs.Transcript.{records_most, enough, lines_of, check_of, text_of, transcript_of, printed, printed_length}
use Rattle.transcript.specs.Private.{answers_most}
use Rattle.transcript.proofs.Codes.{room_enough, code_low}

module _ (tape out : List ℕ) where
  abbrev whole : List ℕ
  whole = transcript_of fresh_device tape

  -- what a call owes of its result and of the buffer
  abbrev pub Printed : List ℕ → ℕ → Type 0
  Printed after r = (r ≡ printed_length whole out) × ((after ≡ printed whole out) × Counts r after)

  pub too_short : length out < enough → Printed out 0
  unfolding printed printed_length
  too_short h = (rw (lt-ltb (length out) enough h) refl, (rw (lt-ltb (length out) enough h) refl, (zero-le, refl)))

  module _ (h : enough ≤ length out) where
    held : (text : List ℕ) → whole ≡ text → (r : ℕ) (after : List ℕ) → r ≡ length text → after ≡ text ++ drop (length text) out → Counts r after → Printed after r
    unfolding printed printed_length
    held text e r after p q k = (rw (le-ltb (length out) enough h, e) p, (rw (le-ltb (length out) enough h, e) q, k))

    module _ (k : Result (Unit {0}) RefusedAt) (is : k ≡ checked tape answers_most) where
      text_is : whole ≡ text_of fresh_device (events_of tape) k
      unfolding transcript_of
      text_is = ap (text_of fresh_device (events_of tape)) (sym (is ∙ room_enough tape))

    -- "A refused tape prints only `refused N INDEX`"
    pub refused : (at : RefusedAt) → Err at ≡ checked tape answers_most → (r : ℕ) (after : List ℕ)
        → r ≡ written_length (refused_line (number_of at.refusal) at.index) out → after ≡ written (refused_line (number_of at.refusal) at.index) out → Counts r after → Printed after r
    refused at is r after p q k =
        let line = refused_line (number_of at.refusal) at.index in
        held line (text_is (Err at) is) r after (p ∙ length_long line out (omega arith)) (q ∙ written_long line out (omega arith)) k

    module _ (is : Ok tt ≡ checked tape answers_most) where
      -- an accepted tape has its length right, and none of its records is refused
      pub accepted : (fitting tape ≡ true) × (first_bad tape 0 (records tape) ≡ Ok tt)
      unfolding fitting
      accepted = let p = let_through tape answers_most (sym is) in (joined _ _ (eq-eqb _ _ p.even) (le-leb _ _ p.short), p.fine)

      -- "prints one line a record"
      pub lines : (r : ℕ) (after : List ℕ) → r ≡ length (lines_of 0 fresh_device (events_of tape)) → r ≤ length after → after ≡ lines_of 0 fresh_device (events_of tape) ++ drop r out → Printed after r
      lines r after p f q =
          let text = lines_of 0 fresh_device (events_of tape) in
          held text (text_is (Ok tt) is) r after p (q ∙ ap (λ (n : ℕ). text ++ drop n out) p) (counts r after f)

-- and so by the code alone, from any start: the line of a refused tape, its index from a number that fits 16 bits
module _ (start : Device) (tape : List ℕ) (c : ℕ) (is : c ≡ tape_result tape answers_most) where
  refused_is : (c ≡ 0 → ⊥) → transcript_of start tape ≡ refused_line (c % 256) (c / 256 % 65536)
  unfolding transcript_of
  refused_is n = go (check_of tape) code_is
    where
      code_is : c ≡ result_code (check_of tape)
      code_is = is ∙ ap result_code (room_enough tape)

      go : (k : Result (Unit {0}) RefusedAt) → c ≡ result_code k → text_of start (events_of tape) k ≡ refused_line (c % 256) (c / 256 % 65536)
      go (Ok u) p = absurd (n p)
      go (Err x) p =
          let l = number_low x.refusal in
          let low : c < 256 * records_most = rw (← code_is) at (code_low tape) in
          let a : number_of x.refusal ≡ c % 256 = omega arith in
          let b : x.index ≡ c / 256 % 65536 = omega arith in
          rw (a, b) refl
