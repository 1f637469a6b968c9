-- Document 01: the device as a whole: reset and fresh, reads, IRQ and outputs, the image rule.
use Rattle.std.specs.Prelude.{ℕ, Bool, ◌&&◌}
use Rattle.interrupts.specs.Interrupts.{clear_interrupts, interrupt_rule, interrupt_read}
use Rattle.requests.specs.Requests.{irq}
use Rattle.timers.specs.Registers.{reset_timers, fresh_timers, outputs_of, timers_rule, timer_read}
use Rattle.lines.specs.Registers.{reset_lines, fresh_lines, line_read}
use Rattle.device.specs.declared.Device.{Device}
use Rattle.timers.specs.declared.Timers.{Timers}
use Rattle.interrupts.specs.declared.Interrupts.{Interrupts}
use Rattle.lines.specs.declared.Lines.{Lines}
use Rattle.events.specs.declared.Register.{Register}
use Rattle.events.specs.declared.Register.TheVariants.{OfLines, OfInterrupts, OfTimers}

-- ---- the device with one part stored
abbrev pub with_lines : Lines → Device → Device
with_lines l d = record { lines = l; interrupts = d.interrupts; timers = d.timers }

abbrev pub with_interrupts : Interrupts → Device → Device
with_interrupts i d = record { lines = d.lines; interrupts = i; timers = d.timers }

abbrev pub with_timers : Timers → Device → Device
with_timers t d = record { lines = d.lines; interrupts = d.interrupts; timers = t }

-- ---- reset and fresh
-- "Reset clears GPDR, AER, DDR, IER, IPR, ISR, IMR, VR, modes, positions and outputs; data values, counters and levels stay."
unfoldable pub reset_device : Device → Device
reset_device d = record { lines = reset_lines d.lines; interrupts = clear_interrupts; timers = reset_timers d.timers }

-- "A fresh device is all zero."
unfoldable pub fresh_device : Device
fresh_device = record { lines = fresh_lines; interrupts = clear_interrupts; timers = fresh_timers }

-- ---- "No read changes anything."
unfoldable pub read_of : Register → Device → ℕ
read_of (OfLines r) d = line_read r d.lines
read_of (OfInterrupts r) d = interrupt_read r d.interrupts
read_of (OfTimers r) d = timer_read r d.timers

-- ---- what an answer shows of the device after its event
abbrev pub irq_of : Device → Bool
irq_of d = irq d.interrupts

-- "outputs as in byte 29"
unfoldable pub shown_outputs : Device → ℕ
shown_outputs d = outputs_of d.timers

-- ---- the image rule of a device record
-- "modes A and B at most 15; unused bits of 13, 16, 29, 31 zero; pending only where enabled; in-service all zero where S is 0; a position below its divisor, and 0 in modes 0 and 8." (Of bytes 16, 29 and 31 a record can break the rule by a mode of C or D above 7 alone.)
unfoldable pub image_rule : Device → Bool
image_rule d = interrupt_rule d.interrupts && timers_rule d.timers
