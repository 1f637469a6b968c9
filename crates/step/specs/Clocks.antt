-- Document 01, "Timers": one clock of the device, and n clocks as n single clocks.
use Rattle.std.specs.Prelude.{ℕ, zero, suc}
use Rattle.channels.specs.Raises.{raised_by}
use Rattle.interrupts.specs.Interrupts.{raised}
use Rattle.timers.specs.declared.Timers.{Timers}
use Rattle.timeouts.specs.declared.Timeouts.{Timeouts}
use Rattle.timeouts.specs.Clocks.{none, add_timeouts, timeout_raises, each_clocked, each_reloads}
use Rattle.lines.specs.declared.TimerInput.TheVariants.{Tai, Tbi}
use Rattle.signals.specs.Signals.{input_active}
use Rattle.device.specs.declared.Device.{Device}

-- the reloads of one clock
unfoldable pub clock_timeouts : Device → Timeouts
clock_timeouts d = each_reloads (input_active Tai d.lines) (input_active Tbi d.lines) d.timers

unfoldable pub clock_timers : Device → Timers
clock_timers d = each_clocked (input_active Tai d.lines) (input_active Tbi d.lines) d.timers

-- one clock: each timer takes it, and each timeout raises its channel
unfoldable pub clock_device : Device → Device
clock_device d = record { lines = d.lines; interrupts = raised (raised_by (timeout_raises (clock_timeouts d))) d.interrupts; timers = clock_timers d }

-- n clocks are n single clocks.
unfoldable pub clocks_device : ℕ → Device → Device
clocks_device zero d = d
clocks_device (suc n) d = clocks_device n (clock_device d)

-- "The timeout counts equal the reloads made by that many single clocks"
unfoldable pub timeouts_device : ℕ → Device → Timeouts
timeouts_device zero d = none
timeouts_device (suc n) d = add_timeouts (clock_timeouts d) (timeouts_device n (clock_device d))
