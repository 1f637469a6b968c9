-- Document 01, "Tape and answers": the operands that an event could hold out of range.
use Rattle.std.specs.Prelude.{ℕ, Bool, true, ◌&&◌, leb}
use Rattle.lines.specs.Registers.{is_line}
use Rattle.events.specs.declared.Event.{Event}
use Rattle.events.specs.declared.Event.TheVariants.{Reset, Read, Write, Level, Input, Clocks, Acknowledge, Raise}

-- "7 raise channel a (9–12)": the serial channels
abbrev pub is_serial_channel : ℕ → Bool
is_serial_channel a = leb 9 a && leb a 12

-- 7: "operand out of range"
abbrev pub in_range : Event → Bool
in_range Reset = true
in_range (Read r) = true
in_range (Write r v) = true
in_range (Level i high) = is_line i.0
in_range (Input i high) = true
in_range (Clocks n) = true
in_range (Acknowledge iei) = true
in_range (Raise c) = is_serial_channel c.0
