-- Document 01: one event: what it leaves, its answer and its timeout counts.
use Rattle.std.specs.Prelude.{ℕ, [], ◌∷◌}
use Rattle.requests.specs.declared.Reply.{Reply}
use Rattle.requests.specs.declared.Reply.TheVariants.{Vector as GivenVector, PassedOn as GivenOn, Held as GivenHeld}
use Rattle.channels.specs.Raises.{raises, raised_by}
use Rattle.interrupts.specs.Interrupts.{raised, interrupt_written}
use Rattle.requests.specs.Requests.{acknowledged}
use Rattle.timeouts.specs.Clocks.{none}
use Rattle.timers.specs.Registers.{timer_written}
use Rattle.lines.specs.Registers.{with_level, with_input, line_written}
use Rattle.events.specs.declared.Event.{Event}
use Rattle.events.specs.declared.Event.TheVariants.{Reset, Read, Write, Level, Input, Clocks, Acknowledge, Raise}
use Rattle.events.specs.declared.Answer.{Answer}
use Rattle.events.specs.declared.Answer.TheVariants.{Done, Data, Vector, PassedOn, Held}
use Rattle.device.specs.declared.Device.{Device}
use Rattle.device.specs.declared.Stepped.{Stepped}
use Rattle.step.specs.Clocks.{clocks_device, timeouts_device}
use Rattle.device.specs.Whole.{with_lines, with_interrupts, with_timers, reset_device, read_of}
use Rattle.device.specs.Signals.{done, signal_step}
use Rattle.lines.specs.declared.LineRegister.TheVariants.{Gpdr, Aer, Ddr}
use Rattle.events.specs.declared.Register.{Register}
use Rattle.events.specs.declared.Register.TheVariants.{OfLines, OfInterrupts, OfTimers}

-- ---- writes: an AER write changes the signals; "A DDR or control write never raises."
unfoldable pub write_step : Register → ℕ → Device → Stepped
write_step (OfLines Gpdr) v d = done (with_lines (line_written Gpdr v d.lines) d)
write_step (OfLines Aer) v d = signal_step (line_written Aer v d.lines) d
write_step (OfLines Ddr) v d = done (with_lines (line_written Ddr v d.lines) d)
write_step (OfInterrupts r) v d = done (with_interrupts (interrupt_written r v d.interrupts) d)
write_step (OfTimers r) v d = done (with_timers (timer_written r v d.timers) d)

-- ---- events
-- what an acknowledge gives, as an answer
abbrev pub replied : Reply → Answer
replied (GivenVector v) = Vector v
replied GivenOn = PassedOn
replied GivenHeld = Held

-- "Kinds: 0 reset; 1 read rs a; 2 write rs a [..]; 3 line a (0–7) to level n (0, 1); 4 input a (0 TAI, 1 TBI) to level n; 5 n clocks, any n; 6 acknowledge [..]; 7 raise channel a (9–12)."
unfoldable pub effect_of : Device → Event → Stepped
effect_of d Reset = done (reset_device d)
effect_of d (Read r) = record { device = d; answer = Data (read_of r d); timeouts = none }
effect_of d (Write r v) = write_step r v d
effect_of d (Level i high) = signal_step (with_level i high d.lines) d
effect_of d (Input i high) = signal_step (with_input i high d.lines) d
effect_of d (Clocks n) = record { device = clocks_device n d; answer = Done; timeouts = timeouts_device n d }
effect_of d (Acknowledge iei) = record { device = with_interrupts (acknowledged iei d.interrupts).interrupts d; answer = replied (acknowledged iei d.interrupts).reply; timeouts = none }
effect_of d (Raise c) = done (with_interrupts (raised (raised_by (raises 1 c ∷ [])) d.interrupts) d)

-- One event: its effect. What a later rule does at the end of every event, it does here; the paper has nothing there yet.
abbrev pub step_of : Device → Event → Stepped
step_of d e = effect_of d e
