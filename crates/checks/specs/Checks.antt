-- Document 01, "Tape and answers": the check of a whole tape, its refusals in their order.
use Rattle.std.specs.Prelude.{ℕ, zero, suc, ◌+◌, ◌*◌, cond, List, leb, Result, Ok, Err}
use Rattle.events.specs.declared.Event.{Event}
use Rattle.events.specs.declared.Refusal.{Refusal}
use Rattle.events.specs.declared.Refusal.TheVariants.{TapeLength, AnswerLength}
use Rattle.events.specs.declared.RefusedAt.{RefusedAt}
use Rattle.events.specs.Numbers.{returned}
use Rattle.record.specs.Records.{record_bytes}
use Rattle.answer.specs.Answers.{answer_bytes}
use Rattle.tape.specs.Tapes.{fitting, records, decoded}

-- a refusal, with "index of the bad record (0 for 1 to 4 and 9)"
abbrev pub bad_at : Refusal → ℕ → Result (Unit {0}) RefusedAt
bad_at r i = Err (record { refusal = r; index = i })

-- "5 to 8 for each record in tape order": the first refused of the k records from the i-th on, with its index
abbrev pub first_bad_at : Result Event Refusal → ℕ → Result (Unit {0}) RefusedAt → Result (Unit {0}) RefusedAt
first_bad_at (Ok e) i later = later
first_bad_at (Err r) i later = bad_at r i

unfoldable pub first_bad : List ℕ → ℕ → ℕ → Result (Unit {0}) RefusedAt
first_bad tape i zero = Ok tt
first_bad tape i (suc k) = first_bad_at (decoded tape (i * record_bytes)) i (first_bad tape (i + 1) k)

-- 9: "answer buffer shorter than 22 × records", after all records
abbrev pub after_records : Result (Unit {0}) RefusedAt → ℕ → ℕ → Result (Unit {0}) RefusedAt
after_records (Err e) n room = Err e
after_records (Ok u) n room = cond (leb (answer_bytes * n) room) (Ok tt) (bad_at AnswerLength 0)

-- of a tape alone: 4, then 5 to 8, then 9
unfoldable pub checked : List ℕ → ℕ → Result (Unit {0}) RefusedAt
checked tape room = cond (fitting tape) (after_records (first_bad tape 0 (records tape)) (records tape) room) (bad_at TapeLength 0)

-- "The C call returns 0, or 256 × index of the bad record (0 for 1 to 4 and 9) + number."
abbrev pub result_code : Result (Unit {0}) RefusedAt → ℕ
result_code (Ok u) = 0
result_code (Err e) = returned e.refusal e.index

abbrev pub tape_result : List ℕ → ℕ → ℕ
tape_result tape room = result_code (checked tape room)
