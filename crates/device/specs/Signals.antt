-- Document 01, "Lines and timer inputs": what a change of signals does to the device.
use Rattle.std.specs.Prelude.{Bool, ◌&&◌, List, ◌++◌}
use Rattle.timer.specs.declared.Timer.{Timer}
use Rattle.timer.specs.Timers.{event_count, pulse_width}
use Rattle.channels.specs.Raises.{Raises, raised_by}
use Rattle.interrupts.specs.Interrupts.{raised}
use Rattle.timers.specs.declared.Timers.{Timers}
use Rattle.timeouts.specs.declared.Timeouts.{Timeouts}
use Rattle.timeouts.specs.Clocks.{timeout_raises, pulse_timers, pulse_timeouts, none}
use Rattle.lines.specs.declared.Lines.{Lines}
use Rattle.lines.specs.declared.TimerInput.{TimerInput}
use Rattle.lines.specs.declared.TimerInput.TheVariants.{Tai, Tbi}
use Rattle.signals.specs.Signals.{input_becomes, signal_raises, of_inputs}
use Rattle.device.specs.declared.Device.{Device}
use Rattle.events.specs.declared.Answer.TheVariants.{Done}
use Rattle.device.specs.declared.Stepped.{Stepped}

-- TAI is timer A's input, TBI timer B's
abbrev pub timer_of : TimerInput → Timers → Timer
timer_of Tai t = t.a
timer_of Tbi t = t.b

-- the inputs whose timers are in pulse-width modes
abbrev pub measuring : Timers → TimerInput → Bool
measuring t = of_inputs (pulse_width t.a.mode) (pulse_width t.b.mode)

-- "In event count mode each time TAI or TBI becomes active, by level or AER write, gives one count pulse."
unfoldable pub counts : TimerInput → Timers → Lines → Lines → Bool
counts i t before after = event_count (timer_of i t).mode && input_becomes i before after

unfoldable pub signal_timers : Lines → Device → Timers
signal_timers after d = pulse_timers (counts Tai d.timers d.lines after) (counts Tbi d.timers d.lines after) d.timers

-- "for an event without clocks, the reloads it made (0 or 1)"
unfoldable pub signal_timeouts : Lines → Device → Timeouts
signal_timeouts after d = pulse_timeouts (counts Tai d.timers d.lines after) (counts Tbi d.timers d.lines after) d.timers

-- all that the change raises: which channels, and how often
unfoldable pub change_raises : Lines → Device → List Raises
change_raises after d = signal_raises (measuring d.timers) d.lines after ++ timeout_raises (signal_timeouts after d)

-- the signals become those of `after`
unfoldable pub signalled : Lines → Device → Device
signalled after d = record { lines = after; interrupts = raised (raised_by (change_raises after d)) d.interrupts; timers = signal_timers after d }

-- ---- steps without a value
-- an event whose whole work is to leave this device
abbrev pub done : Device → Stepped
done d = record { device = d; answer = Done; timeouts = none }

-- an event that makes the signals those of `after`
abbrev pub signal_step : Lines → Device → Stepped
signal_step after d = record { device = signalled after d; answer = Done; timeouts = signal_timeouts after d }
