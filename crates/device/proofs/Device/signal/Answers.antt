-- `Device::signal` meets its contract, part by part. Assumes nothing.
use Prim.Native.Nat.{ℕ}
use Rattle.channels.proofs.Raises.{raised_by_parts}
use Rattle.channels.specs.Raises.{raised_by}
use Rattle.device.specs.Signals.{measuring, signal_timers, signal_timeouts, change_raises, signalled}
use Rattle.events.specs.declared.Answer.TheVariants.{Done}
use Rattle.interrupts.specs.Interrupts.{raised}
use Rattle.signals.specs.Signals.{signal_raises, of_inputs}
use Rattle.timeouts.specs.Clocks.{timeout_raises, pulsed_by}
use Rattle.timeouts.specs.declared.Advanced.{Advanced}
use Rattle.timeouts.specs.declared.Timeouts.{Timeouts}
use lib.Bits.{bit_or}
use mathlib.Core.Bool.{Bool}
use mathlib.Core.Path.{◌≡◌, sym, ap, ap₂, ◌∙◌}
use Rattle.device.proofs.Device.signal.Goals as goal

pub returns : goal.returns
unfolding signalled change_raises signal_timers signal_timeouts
returns c =
    let a = c.args in
    let d = a.self in
    let after = a.after in
    let moved : c.count.result ≡ record { timers = signal_timers after d; timeouts = signal_timeouts after d } = c.count.ensures ∙ ap₂ (λ (x y : Bool). pulsed_by x y d.timers) c.counts.ensures c.counts-2.ensures in
    let counts = ap (λ (m : Advanced). m.timeouts) moved in
    let by_lines = c.raises-raised.ensures ∙ ap₂ (λ (x y : Bool). raised_by (signal_raises (of_inputs x y) d.lines after)) c.measuring.ensures.0 c.measuring.ensures.1 in
    let by-timers = c.channels.ensures ∙ ap (λ (m : Timeouts). raised_by (timeout_raises m)) counts in
    let all = ap₂ bit_or by_lines by-timers ∙ sym (raised_by_parts (signal_raises (measuring d.timers) d.lines after) (timeout_raises (signal_timeouts after d))) in
    let raises = c.raise.ensures ∙ ap (λ (s : ℕ). raised s d.interrupts) all in
    λ k. record { device = record { lines = after; interrupts = raises k; timers = (moved k).timers }; answer = Done; timeouts = counts k }
