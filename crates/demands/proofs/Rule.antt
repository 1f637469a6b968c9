-- Every event keeps the image rule, part by part: the parts' crates have the laws. Assumes nothing.
use Prim.Native.Nat.{ℕ, ◌<◌}
use mathlib.Core.Path.{◌≡◌}
use mathlib.Core.Bool.{true}
use Rattle.bits.proofs.Bits.{halves, joined}
use Rattle.interrupts.proofs.Rule.{Ruled, ruled, rule_kept, raise_ruled, written_ruled, clear_ruled}
use Rattle.requests.proofs.Rule.{acknowledged_ruled}
use Rattle.timers.proofs.Rule.{AllSettled, all_settled, timers_ruled, reset_settles, written_settles}
use Rattle.timeouts.proofs.Rule.{pulses_settle, clocks_settle}
use Rattle.lines.specs.declared.Lines.{Lines}
use Rattle.lines.specs.declared.TimerInput.TheVariants.{Tai, Tbi}
use Rattle.lines.specs.declared.LineRegister.TheVariants.{Gpdr, Aer, Ddr}
use Rattle.events.specs.declared.Register.{Register}
use Rattle.events.specs.declared.Register.TheVariants.{OfLines, OfInterrupts, OfTimers}
use Rattle.events.specs.declared.Event.{Event}
use Rattle.events.specs.declared.Event.TheVariants.{Reset, Read, Write, Level, Input, Clocks, Acknowledge, Raise}
use Rattle.device.specs.declared.Device.{Device}
use Rattle.device.specs.Signals.{counts, signal_timers, signalled}
use Rattle.step.specs.Clocks.{clocks_device}
use Rattle.step.specs.Events.{write_step}
use Rattle.device.specs.Whole.{reset_device, image_rule}
use Rattle.step.specs.Events.{step_of, effect_of}
use Rattle.step.proofs.Clocks.{clocks_each}
use Rattle.demands.specs.Rule.{WritesByte, EveryEventKeepsTheRule}

-- the rule's parts; the lines have none
pub record RuleParts (x : Device) : Type 0 where
  pub interrupts : Ruled x.interrupts
  pub timers : AllSettled x.timers

pub rule_parts : (d : Device) → image_rule d ≡ true → RuleParts d
unfolding image_rule
rule_parts d e = let h = halves _ _ e in record { interrupts = ruled d.interrupts h.0; timers = all_settled d.timers h.1 }

pub rule_from_parts : (d : Device) → RuleParts d → image_rule d ≡ true
unfolding image_rule
rule_from_parts d k = joined _ _ (rule_kept d.interrupts k.interrupts) (timers_ruled d.timers k.timers)

-- ---- events
module _ (d : Device) (k : RuleParts d) where
  signalled_keeps : (after : Lines) → RuleParts (signalled after d)
  unfolding signalled signal_timers
  signalled_keeps after = record { interrupts = raise_ruled d.interrupts k.interrupts _; timers = pulses_settle d.timers k.timers (counts Tai d.timers d.lines after) (counts Tbi d.timers d.lines after) }

  clocks_keep : (n : ℕ) → RuleParts (clocks_device n d)
  clocks_keep n = rw (clocks_each n d) (record { interrupts = raise_ruled d.interrupts k.interrupts _; timers = clocks_settle d.timers k.timers _ _ n })

  written_keeps : (r : Register) (v : ℕ) → v < 256 → RuleParts (write_step r v d).device
  unfolding write_step
  written_keeps (OfLines Gpdr) v h = record { interrupts = k.interrupts; timers = k.timers }
  written_keeps (OfLines Aer) v h = signalled_keeps _
  written_keeps (OfLines Ddr) v h = record { interrupts = k.interrupts; timers = k.timers }
  written_keeps (OfInterrupts r) v h = record { interrupts = written_ruled d.interrupts k.interrupts r v h; timers = k.timers }
  written_keeps (OfTimers r) v h = record { interrupts = k.interrupts; timers = written_settles d.timers k.timers r v }

step_keeps : (d : Device) → RuleParts d → (e : Event) → WritesByte e → RuleParts (step_of d e).device
unfolding effect_of reset_device
step_keeps d k Reset h = record { interrupts = clear_ruled; timers = reset_settles d.timers k.timers }
step_keeps d k (Read r) h = k
step_keeps d k (Write r v) h = written_keeps d k r v h
step_keeps d k (Level i high) h = signalled_keeps d k _
step_keeps d k (Input i high) h = signalled_keeps d k _
step_keeps d k (Clocks n) h = clocks_keep d k n
step_keeps d k (Acknowledge iei) h = record { interrupts = acknowledged_ruled d.interrupts k.interrupts iei; timers = k.timers }
step_keeps d k (Raise c) h = record { interrupts = raise_ruled d.interrupts k.interrupts _; timers = k.timers }

pub every_event_keeps_the_rule : EveryEventKeepsTheRule
every_event_keeps_the_rule d e h r = rule_from_parts (step_of d e).device (step_keeps d (rule_parts d r) e h)
