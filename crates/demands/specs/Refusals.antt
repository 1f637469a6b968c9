-- Demand 1: "Every image, tape of events and answer buffer, good or broken, gets either its answer or one of nine numbered refusals, given under the conditions in document 01 and no others [..] A refused call leaves the lent image and answer buffer as they came."
-- `Given` is the table of document 01, a row a constructor. Every call has its row (`EachCallHasItsRow`) and no other (`NoOtherRow`). Proved in proofs/Refusals.antt, `ByteRuleIsRecordRule` in proofs/ByteRule.antt, `GoodRecordHasEvent` in proofs/Records.antt.
use Rattle.std.specs.Prelude.{ℕ, ◌+◌, ◌*◌, ◌/◌, ◌%◌, ◌≤◌, ◌<◌, ◌≡◌, true, List, ◌++◌, ◌⊎◌, ◌↔◌, length, drop, None, Ok, Err}
use Rattle.std.specs.Int.Bits.{bit_and}
use Rattle.timer.specs.Timers.{divisor}
use Rattle.events.specs.declared.Event.{Event}
use Rattle.events.specs.declared.Refusal.TheVariants.{TapeLength}
use Rattle.device.specs.Whole.{image_rule}
use Rattle.layout.specs.Layout.{image_bytes, image_of, device_of}
use Rattle.image.specs.Image.{unused_zero, load_of}
use Rattle.bits.specs.Bytes.{byte, number}
use Rattle.record.specs.Records.{record_bytes}
use Rattle.tape.specs.Tapes.{tape_most, records, decoded, events_of, record_at}
use Rattle.answer.specs.Answers.{answer_bytes}
use Rattle.run.specs.Runs.{run_of, answers_of, result_of, image_after, answers_after}

-- ---- an image
-- "0–1 mark 4D 31"
abbrev pub ImageMarked : List ℕ → Type 0
ImageMarked image = (byte image 0 ≡ 0x4D) × (byte image 1 ≡ 0x31)

-- two registers, A at byte k and B after it, as one number: "Register A holds channels 15 to 8 in bits 7 to 0, register B channels 7 to 0."
abbrev pub pair_at : List ℕ → ℕ → ℕ
pair_at image k = byte image k * 256 + byte image (k + 1)

-- a mode and a position: "a position below its divisor, and 0 in modes 0 and 8"; these two have divisor 0, which nothing is below
pub data PositionRuled : ℕ → ℕ → Type 0 where
  below_divisor : {mode position : ℕ} → position < divisor mode → PositionRuled mode position
  in_mode_0 : PositionRuled 0 0
  in_mode_8 : PositionRuled 8 0

-- "Image rule", over the bytes, in the paper's order
pub record ImageRuled (image : List ℕ) : Type 0 where
  -- "modes A and B at most 15": "14, 15 modes A, B"
  pub mode_a : byte image 14 ≤ 15
  pub mode_b : byte image 15 ≤ 15
  -- "unused bits of 13, 16, 29, 31 zero": of VR bits 2 to 0, of TCDCR 7 and 3, of the outputs those above 3, of TAI and TBI those above 1
  pub unused_13 : byte image 13 % 8 ≡ 0
  pub unused_16 : (byte image 16 < 128) × (byte image 16 / 8 % 2 ≡ 0)
  pub unused_29 : byte image 29 < 16
  pub unused_31 : byte image 31 < 4
  -- "pending only where enabled": IPRA, IPRB are bytes 7, 8, and IERA, IERB bytes 5, 6
  pub pending_enabled : bit_and (pair_at image 7) (pair_at image 5) ≡ pair_at image 7
  -- "in-service all zero where S is 0": S is bit 3 of VR, and ISRA, ISRB are bytes 9, 10
  pub service_zero : byte image 13 / 8 % 2 ≡ 0 → (byte image 9 ≡ 0) × (byte image 10 ≡ 0)
  -- "25–28 positions"; of TCDCR "bits 6 to 4 are C's mode, 2 to 0 D's"
  pub position_a : PositionRuled (byte image 14) (byte image 25)
  pub position_b : PositionRuled (byte image 15) (byte image 26)
  pub position_c : PositionRuled (byte image 16 / 16 % 8) (byte image 27)
  pub position_d : PositionRuled (byte image 16 % 8) (byte image 28)

-- an image that 1 to 3 do not refuse
pub record GoodImage (image : List ℕ) : Type 0 where
  -- 32 bytes
  pub long : length image ≡ image_bytes
  pub marked : ImageMarked image
  pub ruled : ImageRuled image

-- ---- a record
-- "A record is 8 bytes: mark 4D 45, kind, a, then n in four bytes, high byte first."
abbrev pub RecordMarked : List ℕ → ℕ → Type 0
RecordMarked tape i = (byte tape (i * record_bytes) ≡ 0x4D) × (byte tape (i * record_bytes + 1) ≡ 0x45)

abbrev pub kind_of : List ℕ → ℕ → ℕ
kind_of tape i = byte tape (i * record_bytes + 2)

abbrev pub operand_a : List ℕ → ℕ → ℕ
operand_a tape i = byte tape (i * record_bytes + 3)

abbrev pub operand_n : List ℕ → ℕ → ℕ
operand_n tape i = number (byte tape (i * record_bytes + 4)) (byte tape (i * record_bytes + 5)) (byte tape (i * record_bytes + 6)) (byte tape (i * record_bytes + 7))

-- kind, a and n: "Register select rs is 0 to 23"; "An operand not named is 0."
pub data OperandsInRange : ℕ → ℕ → ℕ → Type 0 where
  -- "0 reset"
  of_reset : OperandsInRange 0 0 0
  -- "1 read rs a"
  of_read : {a : ℕ} → a ≤ 23 → OperandsInRange 1 a 0
  -- "2 write rs a, n at most 255"
  of_write : {a n : ℕ} → a ≤ 23 → n ≤ 255 → OperandsInRange 2 a n
  -- "3 line a (0–7) to level n (0, 1)"
  of_level : {a n : ℕ} → a ≤ 7 → n ≤ 1 → OperandsInRange 3 a n
  -- "4 input a (0 TAI, 1 TBI) to level n"
  of_input : {a n : ℕ} → a ≤ 1 → n ≤ 1 → OperandsInRange 4 a n
  -- "5 n clocks, any n"
  of_clocks : {n : ℕ} → OperandsInRange 5 0 n
  -- "6 acknowledge, a is 1 if IEI is asserted, else 0"
  of_acknowledge : {a : ℕ} → a ≤ 1 → OperandsInRange 6 a 0
  -- "7 raise channel a (9–12)"
  of_raise : {a : ℕ} → 9 ≤ a → a ≤ 12 → OperandsInRange 7 a 0

-- kind and a: "read or write with rs 19 to 23"
pub data SerialSelect : ℕ → ℕ → Type 0 where
  serial_read : {a : ℕ} → 19 ≤ a → a ≤ 23 → SerialSelect 1 a
  serial_write : {a : ℕ} → 19 ≤ a → a ≤ 23 → SerialSelect 2 a

abbrev pub RecordInRange : List ℕ → ℕ → Type 0
RecordInRange tape i = OperandsInRange (kind_of tape i) (operand_a tape i) (operand_n tape i)

abbrev pub RecordSerial : List ℕ → ℕ → Type 0
RecordSerial tape i = SerialSelect (kind_of tape i) (operand_a tape i)

-- a record that 5 to 8 do not refuse; a kind above 7 has no operands in range
pub record GoodRecord (tape : List ℕ) (i : ℕ) : Type 0 where
  pub marked : RecordMarked tape i
  pub operands : RecordInRange tape i
  pub no_serial : RecordSerial tape i → ⊥

abbrev pub GoodBefore : List ℕ → ℕ → Type 0
GoodBefore tape i = (j : ℕ) → j < i → GoodRecord tape j

-- ---- the table
-- "Checks run 1 to 4, then 5 to 8 for each record in tape order, then 9.": they have passed 1 to 4 and every record before the i-th
pub record ChecksReach (image tape : List ℕ) (i : ℕ) : Type 0 where
  pub good_image : GoodImage image
  -- a multiple of 8, and at most 4,096
  pub whole_records : length tape % record_bytes ≡ 0
  pub not_above : length tape ≤ tape_most
  pub good_before : GoodBefore tape i

-- Of an image, a tape and an answer buffer's length, what the call returns: "0, or 256 × index of the bad record (0 for 1 to 4 and 9) + number".
pub data Given (image tape : List ℕ) (room : ℕ) : ℕ → Type 0 where
  -- 1 "image buffer is not 32 bytes"
  image_length_wrong : (length image ≡ image_bytes → ⊥) → Given image tape room 1
  -- 2 "image mark wrong"
  image_mark_wrong : length image ≡ image_bytes → (ImageMarked image → ⊥) → Given image tape room 2
  -- 3 "image [..] breaks the image rule"
  image_rule_broken : length image ≡ image_bytes → ImageMarked image → (ImageRuled image → ⊥) → Given image tape room 3
  -- 4 "tape length not a multiple of 8, or above 4,096"
  tape_length_wrong : GoodImage image → (length tape % record_bytes ≡ 0 → ⊥) ⊎ (tape_most < length tape) → Given image tape room 4
  -- 5 "record mark wrong"
  record_mark_wrong : (i : ℕ) → i < records tape → ChecksReach image tape i → (RecordMarked tape i → ⊥) → Given image tape room (256 * i + 5)
  -- 6 "kind above 7"
  kind_above_7 : (i : ℕ) → i < records tape → ChecksReach image tape i → RecordMarked tape i → 7 < kind_of tape i → Given image tape room (256 * i + 6)
  -- 7 "operand out of range"
  operand_out_of_range : (i : ℕ) → i < records tape → ChecksReach image tape i → RecordMarked tape i → kind_of tape i ≤ 7 → (RecordInRange tape i → ⊥) → Given image tape room (256 * i + 7)
  -- 8 "read or write with rs 19 to 23"
  serial_register : (i : ℕ) → i < records tape → ChecksReach image tape i → RecordMarked tape i → RecordInRange tape i → RecordSerial tape i → Given image tape room (256 * i + 8)
  -- 9 "answer buffer shorter than 22 × records"
  answers_too_short : ChecksReach image tape (records tape) → room < answer_bytes * records tape → Given image tape room 9
  -- no refusal
  not_refused : ChecksReach image tape (records tape) → answer_bytes * records tape ≤ room → Given image tape room 0

abbrev pub EachCallHasItsRow : Type 0
EachCallHasItsRow = (image tape answers : List ℕ) → Given image tape (length answers) (result_of image tape answers)

abbrev pub NoOtherRow : Type 0
NoOtherRow = (image tape answers : List ℕ) (n : ℕ) → Given image tape (length answers) n → n ≡ result_of image tape answers

-- ---- what a call leaves: the number, the image and the answers at exit
pub data Ends (image tape answers : List ℕ) : ℕ → List ℕ → List ℕ → Type 0 where
  -- 0, with the run's image and answers: "Success writes the image and the first 22 × records answer bytes only."
  with_answers : Given image tape (length answers) 0
      → Ends image tape answers 0 (image_of (run_of (device_of image) (events_of tape))) (answers_of (device_of image) (events_of tape) ++ drop (answer_bytes * records tape) answers)
  -- a refusal, not 0, with both buffers as they came: "A refused call leaves the lent image and answer buffer as they came."
  with_refusal : {n : ℕ} → (n ≡ 0 → ⊥) → Given image tape (length answers) n → Ends image tape answers n image answers

abbrev pub AnsweredOrRefused : Type 0
AnsweredOrRefused = (image tape answers : List ℕ) → Ends image tape answers (result_of image tape answers) (image_after image tape answers) (answers_after image tape answers)

-- ---- the words of the table and the definitions of the code
-- the image rule over the bytes is the code's: of the bits that no device record holds, and of the record
abbrev pub ByteRuleIsRecordRule : Type 0
ByteRuleIsRecordRule = (image : List ℕ) → ImageRuled image ↔ ((unused_zero image ≡ true) × (image_rule (device_of image) ≡ true))

-- a good image is one that loads, as the device of its bytes
abbrev pub GoodImageLoads : Type 0
GoodImageLoads = (image : List ℕ) → GoodImage image ↔ (load_of image ≡ Ok (device_of image))

-- the record of index i means this event
abbrev pub RecordMeans : List ℕ → ℕ → Event → Type 0
RecordMeans tape i e = decoded tape (i * record_bytes) ≡ Ok e

-- a good record is one that has an event
pub record HasEvent (tape : List ℕ) (i : ℕ) : Type 0 where
  pub event : Event
  pub means : RecordMeans tape i event

abbrev pub GoodRecordHasEvent : Type 0
GoodRecordHasEvent = (tape : List ℕ) (i : ℕ) → GoodRecord tape i ↔ HasEvent tape i

-- ---- a record looked up by its index
abbrev pub WholeTape : List ℕ → Type 0
WholeTape tape = (length tape % record_bytes ≡ 0) × (length tape ≤ tape_most)

-- 4 exactly if "tape length not a multiple of 8, or above 4,096"; proved in proofs/Found.antt
abbrev pub FoundRefusesLength : Type 0
FoundRefusesLength = (tape : List ℕ) (i : ℕ) → (record_at tape i ≡ Err TapeLength) ↔ (WholeTape tape → ⊥)

-- past the end exactly if an accepted length has no such record
abbrev pub FoundPastEnd : Type 0
FoundPastEnd = (tape : List ℕ) (i : ℕ) → (record_at tape i ≡ Ok None) ↔ (WholeTape tape × (records tape ≤ i))
