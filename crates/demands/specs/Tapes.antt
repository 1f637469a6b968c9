-- Demand 3 on tapes of bytes: "So on any accepted tape, neighbouring clock events whose sum stays within that limit may be joined, or one cut while tape and answer buffer stay accepted: the final device, request and outputs after the span and answers to other events stay the same, and timeout counts add up."
-- `Joins` and `Cuts` are the demand, `Stays` is the law behind both, and `Recorded` says that each number of clocks has its record. Proved in proofs/Tapes.antt.
use Rattle.std.specs.Prelude.{ℕ, ◌+◌, ◌*◌, ◌≤◌, ◌<◌, ◌≡◌, List, [], ◌∷◌, ◌++◌, length, take, drop}
use Rattle.device.specs.declared.Device.{Device}
use Rattle.events.specs.declared.Event.{Event}
use Rattle.events.specs.declared.Event.TheVariants.{Clocks}
use Rattle.bits.specs.Bytes.{byte, number, four}
use Rattle.layout.specs.Layout.{device_of}
use Rattle.record.specs.Records.{record_bytes, record_mark0, record_mark1}
use Rattle.tape.specs.Tapes.{tape_most, decoded, records, events}
use Rattle.answer.specs.Answers.{answer_bytes, head_bytes, count_bytes}
use Rattle.run.specs.Runs.{run_of, result_of, image_after, answers_after}
use Rattle.demands.specs.Refusals.{RecordMeans}

-- "any n from 0 to 4,294,967,295"
abbrev pub most_clocks : ℕ
most_clocks = 4_294_967_295

-- ---- a tape by its records
-- the device before the record of index i: the one that the records before it leave
abbrev pub device_before : List ℕ → List ℕ → ℕ → Device
device_before image tape i = run_of (device_of image) (events tape 0 i)

-- the tape with these in place of the records from the i-th on and below the k-th
abbrev pub replaced : ℕ → ℕ → List ℕ → List ℕ → List ℕ
replaced i k new tape = take (i * record_bytes) tape ++ new ++ drop (k * record_bytes) tape

-- one record that means this event
pub record RecordOf (e : Event) (r : List ℕ) : Type 0 where
  pub long : length r ≡ record_bytes
  pub means : RecordMeans r 0 e

-- ---- an answer buffer by its answers
-- the answer of index i in a buffer
abbrev pub answer_in : List ℕ → ℕ → List ℕ
answer_in answers i = take answer_bytes (drop (answer_bytes * i) answers)

-- the answer to the record of index i that a call leaves
abbrev pub answer_to : List ℕ → List ℕ → List ℕ → ℕ → List ℕ
answer_to image tape answers i = answer_in (answers_after image tape answers) i

-- "An answer is 22 bytes: mark 4D 41, class [..], value (0 if none), IRQ after it (0, 1), outputs as in byte 29, four timeout counts A to D of four bytes, high byte first."
abbrev pub class_at : List ℕ → ℕ
class_at answer = byte answer 2

abbrev pub value_at : List ℕ → ℕ
value_at answer = byte answer 3

abbrev pub request_at : List ℕ → ℕ
request_at answer = byte answer 4

abbrev pub outputs_at : List ℕ → ℕ
outputs_at answer = byte answer 5

-- a number in four bytes, high byte first
abbrev pub number_at : List ℕ → ℕ → ℕ
number_at bytes at = number (byte bytes at) (byte bytes (at + 1)) (byte bytes (at + 2)) (byte bytes (at + 3))

-- count k, from the answer's head on: of A, B, C and D
abbrev pub count_at : ℕ → List ℕ → ℕ
count_at k answer = number_at answer (head_bytes + count_bytes * k)

-- ---- a span cut in two, and the same span joined
-- Records i and i + 1 of the one tape mean m and n clocks, record i of the other means their sum, and all other records mean the same.
pub record Spanned (cut joined : List ℕ) (i m n : ℕ) : Type 0 where
  pub longer : length cut ≡ length joined + record_bytes
  pub within : i < records joined
  pub first : RecordMeans cut i (Clocks m)
  pub second : RecordMeans cut (i + 1) (Clocks n)
  pub whole : RecordMeans joined i (Clocks (m + n))
  pub before : (j : ℕ) → j < i → decoded cut (j * record_bytes) ≡ decoded joined (j * record_bytes)
  pub after : (j : ℕ) → i < j → j < records joined → decoded cut ((j + 1) * record_bytes) ≡ decoded joined (j * record_bytes)

-- class "0 done", value "0 if none"
pub record SaysDone (answer : List ℕ) : Type 0 where
  pub class : class_at answer ≡ 0
  pub value : value_at answer ≡ 0

-- What a call with the cut tape and one with the joined tape of n records leave, images and answer buffers: the same but for the counts of the span, which add up.
pub record SameButCounts (image image' cut joined : List ℕ) (n i : ℕ) : Type 0 where
  -- "the final device"
  pub final : image ≡ image'
  -- "request and outputs after the span"
  pub request : request_at (answer_in cut (i + 1)) ≡ request_at (answer_in joined i)
  pub outputs : outputs_at (answer_in cut (i + 1)) ≡ outputs_at (answer_in joined i)
  -- "and answers to other events stay the same"
  pub before : (j : ℕ) → j < i → answer_in cut j ≡ answer_in joined j
  pub after : (j : ℕ) → i < j → j < n → answer_in cut (j + 1) ≡ answer_in joined j
  -- "and timeout counts add up"
  pub counts : (k : ℕ) → k < 4 → count_at k (answer_in joined i) ≡ count_at k (answer_in cut i) + count_at k (answer_in cut (i + 1))
  -- all three answers of the span say "done", and the joined one has all bytes but the counts from the last
  pub first_done : SaysDone (answer_in cut i)
  pub second_done : SaysDone (answer_in cut (i + 1))
  pub whole_done : SaysDone (answer_in joined i)
  pub head : take head_bytes (answer_in cut (i + 1)) ≡ take head_bytes (answer_in joined i)

abbrev pub SameBut : List ℕ → List ℕ → List ℕ → List ℕ → List ℕ → ℕ → Type 0
SameBut image cut answers' joined answers i =
    SameButCounts (image_after image cut answers') (image_after image joined answers) (answers_after image cut answers') (answers_after image joined answers) (records joined) i

-- So it is of any two tapes so related, if both calls are answered.
abbrev pub Stays : Type 0
Stays =
    (image cut answers' joined answers : List ℕ) (i m n : ℕ)
    → Spanned cut joined i m n
    → m + n ≤ most_clocks
    → result_of image cut answers' ≡ 0
    → result_of image joined answers ≡ 0
    → SameBut image cut answers' joined answers i

-- ---- the two theorems
-- "on any accepted tape, neighbouring clock events whose sum stays within that limit may be joined"
abbrev pub Joins : Type 0
Joins =
    (image cut answers : List ℕ) (i m n : ℕ) (r : List ℕ)
    → result_of image cut answers ≡ 0
    → i + 1 < records cut
    → RecordMeans cut i (Clocks m)
    → RecordMeans cut (i + 1) (Clocks n)
    → m + n ≤ most_clocks
    → RecordOf (Clocks (m + n)) r
    → let joined : List ℕ = replaced i (i + 2) r cut in
    (result_of image joined answers ≡ 0) × SameBut image cut answers joined answers i

-- "or one cut while tape and answer buffer stay accepted"
abbrev pub Cuts : Type 0
Cuts =
    (image joined answers answers' : List ℕ) (i m n : ℕ) (p q : List ℕ)
    → result_of image joined answers ≡ 0
    → i < records joined
    → RecordMeans joined i (Clocks (m + n))
    → m + n ≤ most_clocks
    → RecordOf (Clocks m) p
    → RecordOf (Clocks n) q
    → let cut : List ℕ = replaced i (i + 1) (p ++ q) joined in
    length cut ≤ tape_most
    → answer_bytes * records cut ≤ length answers'
    → (result_of image cut answers' ≡ 0) × SameBut image cut answers' joined answers i

-- ---- the records that the theorems ask for are there
-- "mark 4D 45, kind, a, then n in four bytes, high byte first"; "5 n clocks, any n"
abbrev pub clock_record : ℕ → List ℕ
clock_record n = record_mark0 ∷ record_mark1 ∷ 5 ∷ 0 ∷ four n []

-- one for each n within the limit, all of bytes
abbrev pub Recorded : Type 0
Recorded = (n : ℕ) → n ≤ most_clocks → RecordOf (Clocks n) (clock_record n) × ((k : ℕ) → byte (clock_record n) k < 256)
