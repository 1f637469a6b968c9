-- Every event keeps the image rule: pending only where enabled, in-service empty where S is 0, a position below its divisor. Proved in proofs/Rule.antt.
use Rattle.std.specs.Prelude.{◌<◌, ◌≡◌, true}
use Rattle.device.specs.declared.Device.{Device}
use Rattle.events.specs.declared.Event.{Event}
use Rattle.events.specs.declared.Event.TheVariants.{Reset, Read, Write, Level, Input, Clocks, Acknowledge, Raise}
use Rattle.device.specs.Whole.{image_rule}
use Rattle.step.specs.Events.{step_of}

-- what an event writes is a byte, as its type says
abbrev pub WritesByte : Event → Type 0
WritesByte Reset = Unit {0}
WritesByte (Read r) = Unit {0}
WritesByte (Write r v) = v < 256
WritesByte (Level i high) = Unit {0}
WritesByte (Input i high) = Unit {0}
WritesByte (Clocks n) = Unit {0}
WritesByte (Acknowledge iei) = Unit {0}
WritesByte (Raise c) = Unit {0}

abbrev pub EveryEventKeepsTheRule : Type 0
EveryEventKeepsTheRule = (d : Device) (e : Event) → WritesByte e → image_rule d ≡ true → image_rule (step_of d e).device ≡ true
