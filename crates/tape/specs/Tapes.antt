-- Document 01, "Tape and answers": a tape's records, and what each means.
use Rattle.std.specs.Prelude.{ℕ, zero, suc, ◌+◌, ◌*◌, ◌/◌, ◌%◌, Bool, cond, ◌&&◌, List, [], ◌∷◌, leb, eqb, length, Option, Some, None, Result, Ok, Err}
use Rattle.events.specs.declared.Event.{Event}
use Rattle.events.specs.declared.Refusal.{Refusal}
use Rattle.events.specs.declared.Refusal.TheVariants.{TapeLength}
use Rattle.record.specs.Records.{record_bytes, raw_at, meant}

-- 4: "tape length not a multiple of 8, or above 4,096"
abbrev pub tape_most : ℕ
tape_most = 4096

unfoldable pub fitting : List ℕ → Bool
fitting tape = eqb (length tape % record_bytes) 0 && leb (length tape) tape_most

-- how many records a tape of accepted length has
abbrev pub records : List ℕ → ℕ
records tape = length tape / record_bytes

-- what the record that starts at byte `at` means
unfoldable pub decoded : List ℕ → ℕ → Result Event Refusal
decoded tape at = meant (raw_at tape at)

-- ---- one record, by its index
abbrev pub found_in : Result Event Refusal → Result (Option Event) Refusal
found_in (Ok e) = Ok (Some e)
found_in (Err r) = Err r

-- refusal 4 exactly if the tape's length is wrong; past its last record nothing is refused, and nothing is there
unfoldable pub record_at : List ℕ → ℕ → Result (Option Event) Refusal
record_at tape i = cond (fitting tape) (cond (leb (records tape) i) (Ok None) (found_in (decoded tape (i * record_bytes)))) (Err TapeLength)

-- ---- all records
-- the events of the k records from the i-th on
abbrev pub events_at : Result Event Refusal → List Event → List Event
events_at (Ok e) later = e ∷ later
events_at (Err r) later = later

unfoldable pub events : List ℕ → ℕ → ℕ → List Event
events tape i zero = []
events tape i (suc k) = events_at (decoded tape (i * record_bytes)) (events tape (i + 1) k)

abbrev pub events_of : List ℕ → List Event
events_of tape = events tape 0 (records tape)
