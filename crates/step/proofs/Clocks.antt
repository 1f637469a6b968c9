-- n clocks of the device are n clocks of each timer, and the raises of all their timeouts: no signal changes inside a span, and pending bits only gain.
-- Assumes nothing.
use Prim.Native.Nat.{ℕ, zero, suc}
use mathlib.Core.Path.{◌≡◌, refl, sym, ap, ◌∙◌}
use Rattle.timer.specs.Timers.{clocks, timeouts}
use Rattle.channels.specs.Raises.{raised_by}
use Rattle.interrupts.specs.Interrupts.{raised}
use Rattle.interrupts.proofs.Raises.{raise_raise, raise_none}
use Rattle.timers.specs.declared.Timers.{Timers}
use Rattle.timeouts.specs.declared.Timeouts.{Timeouts}
use Rattle.timeouts.specs.Clocks.{add_timeouts, timeout_raises, timers_after, timeouts_after}
use Rattle.timeouts.proofs.Raises.{timeouts_add_raises, none_raises}
use Rattle.lines.specs.declared.TimerInput.TheVariants.{Tai, Tbi}
use Rattle.signals.specs.Signals.{input_active}
use Rattle.device.specs.declared.Device.{Device}
use Rattle.step.specs.Clocks.{clock_timeouts, clock_timers, clock_device, clocks_device, timeouts_device}

-- n clocks of each timer of the device
abbrev pub span_timers : ℕ → Device → Timers
span_timers n d = timers_after (input_active Tai d.lines) (input_active Tbi d.lines) n d.timers

abbrev pub span_timeouts : ℕ → Device → Timeouts
span_timeouts n d = timeouts_after (input_active Tai d.lines) (input_active Tbi d.lines) n d.timers

pub timeouts_each : (n : ℕ) (d : Device) → timeouts_device n d ≡ span_timeouts n d
unfolding timeouts_device clock_device clock_timers clock_timeouts timeouts
timeouts_each zero d = refl
timeouts_each (suc n) d = ap (add_timeouts (clock_timeouts d)) (timeouts_each n (clock_device d))

pub clocks_each : (n : ℕ) (d : Device) → clocks_device n d ≡ record { lines = d.lines; interrupts = raised (raised_by (timeout_raises (timeouts_device n d))) d.interrupts; timers = span_timers n d }
unfolding clocks_device timeouts_device clock_device clock_timers clocks
clocks_each zero d = λ k. record { lines = d.lines; interrupts = sym (ap (λ (s : ℕ). raised s d.interrupts) none_raises ∙ raise_none d.interrupts) k; timers = d.timers }
clocks_each (suc n) d =
    clocks_each n (clock_device d)
    ∙ (λ k. record {
      lines = d.lines;
      interrupts = (raise_raise (raised_by (timeout_raises (clock_timeouts d))) (raised_by (timeout_raises (timeouts_device n (clock_device d)))) d.interrupts
          ∙ ap (λ (s : ℕ). raised s d.interrupts) (timeouts_add_raises (clock_timeouts d) (timeouts_device n (clock_device d)))) k;
      timers = span_timers n (clock_device d);
    })
