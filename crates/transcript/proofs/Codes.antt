-- The answers of the longest tape are room enough for those of any, and index and number of a refusal are small. Assumes nothing.
use Rattle.std.specs.Prelude.{Result, Ok, Err}
use Prim.Native.Nat.{ℕ, ◌*◌, ◌%◌, ◌≤◌, ◌<◌}
use mathlib.Core.Path.{◌≡◌, refl}
use mathlib.Core.Bool.{Bool, true, false, cond}
use mathlib.Core.List.{List}
use native.Mathlib.Omega.{arith}
use lib.Dec.{eqb, lit<}
use lib.ListN.{length}
use borrow.Author.Tests.{leb-true, le-leb}
use Rattle.bits.proofs.Bits.{halves}
use Rattle.events.specs.declared.Refusal.TheVariants.{TapeLength}
use Rattle.record.specs.Records.{record_bytes}
use Rattle.answer.specs.Answers.{answer_bytes}
use Rattle.events.specs.declared.RefusedAt.{RefusedAt}
use Rattle.tape.specs.Tapes.{tape_most, fitting, records}
use Rattle.checks.specs.Checks.{first_bad}
use Rattle.checks.specs.Checks.{bad_at, after_records, checked, result_code}
use Rattle.checks.proofs.Checks.{index_below, number_low}
use Rattle.transcript.specs.Transcript.{records_most, check_of}
use Rattle.transcript.specs.Private.{answers_most}

module _ (tape : List ℕ) where
  abbrev n : ℕ
  n = records tape

  -- a tape of accepted length has no more records than the longest
  pub few : fitting tape ≡ true → n ≤ records_most
  unfolding fitting
  few e = let h : length tape ≤ tape_most = leb-true _ _ (halves (eqb (length tape % record_bytes) 0) _ e).1 in omega arith

  pub room_enough : checked tape answers_most ≡ check_of tape
  unfolding checked check_of
  room_enough = go (fitting tape) (first_bad tape 0 n) refl
    where
      go : (b : Bool) (c : Result (Unit {0}) RefusedAt) → fitting tape ≡ b → cond b (after_records c n answers_most) (bad_at TapeLength 0) ≡ cond b (after_records c n (answer_bytes * n)) (bad_at TapeLength 0)
      go true (Ok u) e = let h : n ≤ records_most = few e in rw (le-leb (answer_bytes * n) answers_most (omega arith), le-leb (answer_bytes * n) (answer_bytes * n) (omega arith))
      go true (Err x) e = refl
      go false c e = refl

  pub code_low : result_code (check_of tape) < 256 * records_most
  unfolding checked check_of
  code_low = go (fitting tape) (first_bad tape 0 n) refl refl
    where
      go : (b : Bool) (c : Result (Unit {0}) RefusedAt) → fitting tape ≡ b → first_bad tape 0 n ≡ c → result_code (cond b (after_records c n (answer_bytes * n)) (bad_at TapeLength 0)) < 256 * records_most
      go true (Ok u) e f = rw (le-leb (answer_bytes * n) (answer_bytes * n) (omega arith)) (lit< tt)
      go true (Err x) e f = let h : n ≤ records_most = few e in let j = index_below tape n x f in omega (arith, number_low x.refusal)
      go false c e f = lit< tt
