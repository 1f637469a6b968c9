-- Document 01, "Tape and answers": what a record means, an event or refusal 5 to 8.
use Rattle.std.specs.Prelude.{ℕ, ◌+◌, Bool, cond, ◌&&◌, List, [], ◌∷◌, leb, eqb, get_or, Option, Some, None, Result, Ok, Err}
use Rattle.bits.specs.Bytes.{byte, number}
use Rattle.channels.specs.Channels.{line, channel}
use Rattle.lines.specs.declared.TimerInput.{TimerInput}
use Rattle.lines.specs.declared.TimerInput.TheVariants.{Tai, Tbi}
use Rattle.lines.specs.Registers.{is_line}
use Rattle.events.specs.declared.Register.{Register}
use Rattle.events.specs.declared.Event.{Event}
use Rattle.events.specs.declared.Event.TheVariants.{Reset, Read, Write, Level, Input, Clocks, Acknowledge, Raise}
use Rattle.events.specs.declared.Refusal.{Refusal}
use Rattle.events.specs.declared.Refusal.TheVariants.{RecordMark, Kind, Operand, Serial}
use Rattle.events.specs.Ranges.{is_serial_channel}
use Rattle.selects.specs.Selects.{read_select, write_select}

-- "A record is 8 bytes: mark 4D 45, kind, a, then n in four bytes, high byte first."
abbrev pub record_bytes : ℕ
record_bytes = 8

abbrev pub record_mark0 : ℕ
record_mark0 = 0x4D

abbrev pub record_mark1 : ℕ
record_mark1 = 0x45

-- ---- one kind after the other
-- 8: "read or write with rs 19 to 23"
abbrev pub reading : Option Register → Result Event Refusal
reading (Some r) = Ok (Read r)
reading None = Err Serial

abbrev pub writing : Option Register → ℕ → Result Event Refusal
writing (Some r) v = Ok (Write r v)
writing None v = Err Serial

-- ---- kinds and operands
-- "input a (0 TAI, 1 TBI)"
abbrev pub input_of : ℕ → TimerInput
input_of a = cond (eqb a 0) Tai Tbi

-- 7: "operand out of range": the event, if its operands are in range
abbrev pub if_in_range : Bool → Result Event Refusal → Result Event Refusal
if_in_range t e = cond t e (Err Operand)

-- "Kinds: 0 reset; 1 read rs a; 2 write rs a, n at most 255; 3 line a (0–7) to level n (0, 1); 4 input a (0 TAI, 1 TBI) to level n; 5 n clocks, any n; 6 acknowledge, a is 1 if IEI is asserted, else 0; 7 raise channel a (9–12). An operand not named is 0."
abbrev pub kinds : ℕ → ℕ → List (Result Event Refusal)
kinds a n =
    if_in_range (eqb a 0 && eqb n 0) (Ok Reset)
    ∷ if_in_range (leb a 23 && eqb n 0) (reading (read_select a))
    ∷ if_in_range (leb a 23 && leb n 255) (writing (write_select a) n)
    ∷ if_in_range (is_line a && leb n 1) (Ok (Level (line a) (eqb n 1)))
    ∷ if_in_range (leb a 1 && leb n 1) (Ok (Input (input_of a) (eqb n 1)))
    ∷ if_in_range (eqb a 0) (Ok (Clocks n))
    ∷ if_in_range (leb a 1 && eqb n 0) (Ok (Acknowledge (eqb a 1)))
    ∷ if_in_range (is_serial_channel a && eqb n 0) (Ok (Raise (channel a)))
    ∷ []

-- 6: "kind above 7"
unfoldable pub event_of : ℕ → ℕ → ℕ → Result Event Refusal
event_of kind a n = get_or (kinds a n) kind (Err Kind)

-- ---- a record
-- its eight bytes: "mark 4D 45, kind, a, then n in four bytes, high byte first"
pub record Raw : Type 0 where
  pub mark0 : ℕ
  pub mark1 : ℕ
  pub kind : ℕ
  pub a : ℕ
  pub n3 : ℕ
  pub n2 : ℕ
  pub n1 : ℕ
  pub n0 : ℕ

-- those from byte `at` of a tape on
abbrev pub raw_at : List ℕ → ℕ → Raw
raw_at tape at = record {
  mark0 = byte tape at;
  mark1 = byte tape (at + 1);
  kind = byte tape (at + 2);
  a = byte tape (at + 3);
  n3 = byte tape (at + 4);
  n2 = byte tape (at + 5);
  n1 = byte tape (at + 6);
  n0 = byte tape (at + 7);
}

-- a record by itself
abbrev pub raw_of : List ℕ → Raw
raw_of bytes = raw_at bytes 0

-- n, in four bytes, high byte first
abbrev pub operand : Raw → ℕ
operand r = number r.n3 r.n2 r.n1 r.n0

-- what its kind and operands mean
abbrev pub event_in : Raw → Result Event Refusal
event_in r = event_of r.kind r.a (operand r)

-- 5: "record mark wrong" first
abbrev pub marked : Raw → Bool
marked r = eqb r.mark0 record_mark0 && eqb r.mark1 record_mark1

unfoldable pub meant : Raw → Result Event Refusal
meant r = cond (marked r) (event_in r) (Err RecordMark)
