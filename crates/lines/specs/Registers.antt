-- Document 01, "Registers" and "Tape and answers": GPDR, AER and DDR, and the levels; reset and fresh.
use Rattle.std.specs.Prelude.{ℕ, ◌-◌, ◌^◌, Bool, false, cond, leb}
use Rattle.std.specs.Int.Bits.{bit_and, bit_or}
use Rattle.channels.specs.declared.Line.{Line}
use Rattle.lines.specs.declared.Lines.{Lines}
use Rattle.lines.specs.declared.LineRegister.{LineRegister}
use Rattle.lines.specs.declared.LineRegister.TheVariants.{Gpdr, Aer, Ddr}
use Rattle.lines.specs.declared.TimerInput.{TimerInput}
use Rattle.lines.specs.declared.TimerInput.TheVariants.{Tai, Tbi}

-- ---- the lines with one part stored
abbrev pub with_gpdr : ℕ → Lines → Lines
with_gpdr v l = record { gpdr = v; aer = l.aer; ddr = l.ddr; levels = l.levels; tai = l.tai; tbi = l.tbi }

abbrev pub with_aer : ℕ → Lines → Lines
with_aer v l = record { gpdr = l.gpdr; aer = v; ddr = l.ddr; levels = l.levels; tai = l.tai; tbi = l.tbi }

abbrev pub with_ddr : ℕ → Lines → Lines
with_ddr v l = record { gpdr = l.gpdr; aer = l.aer; ddr = v; levels = l.levels; tai = l.tai; tbi = l.tbi }

abbrev pub with_levels : ℕ → Lines → Lines
with_levels v l = record { gpdr = l.gpdr; aer = l.aer; ddr = l.ddr; levels = v; tai = l.tai; tbi = l.tbi }

-- ---- registers: "0 GPDR, 1 AER, 2 DDR"
unfoldable pub line_read : LineRegister → Lines → ℕ
-- GPDR: "A read gives stored bits where DDR is 1 and outside levels where it is 0."
line_read Gpdr l = bit_or (bit_and l.gpdr l.ddr) (bit_and l.levels (255 - l.ddr))
line_read Aer l = l.aer
line_read Ddr l = l.ddr

-- "GPDR: a write stores all eight bits." "AER, DDR, IMR: a write stores."
unfoldable pub line_written : LineRegister → ℕ → Lines → Lines
line_written Gpdr v l = with_gpdr v l
line_written Aer v l = with_aer v l
line_written Ddr v l = with_ddr v l

-- ---- levels: "Levels are remembered for all lines."
-- "line a (0–7)"
abbrev pub is_line : ℕ → Bool
is_line a = leb a 7

-- "3 line a (0–7) to level n (0, 1)"
unfoldable pub with_level : Line → Bool → Lines → Lines
with_level i high l = with_levels (cond (is_line i.0) (cond high (bit_or l.levels (2 ^ i.0)) (bit_and l.levels (255 - 2 ^ i.0))) l.levels) l

-- "4 input a (0 TAI, 1 TBI) to level n"
unfoldable pub with_input : TimerInput → Bool → Lines → Lines
with_input Tai high l = record { gpdr = l.gpdr; aer = l.aer; ddr = l.ddr; levels = l.levels; tai = high; tbi = l.tbi }
with_input Tbi high l = record { gpdr = l.gpdr; aer = l.aer; ddr = l.ddr; levels = l.levels; tai = l.tai; tbi = high }

-- ---- "Reset clears GPDR, AER, DDR [..] levels stay."
abbrev pub reset_lines : Lines → Lines
reset_lines l = with_gpdr 0 (with_aer 0 (with_ddr 0 l))

-- "A fresh device is all zero."
abbrev pub fresh_lines : Lines
fresh_lines = record { gpdr = 0; aer = 0; ddr = 0; levels = 0; tai = false; tbi = false }
