-- One set of raises per event: which channels it raises, and how often. But for a reset, an acknowledge and a write of an interrupt register, which have rules of their own and raise nothing, nothing else of the interrupts changes. Proved in proofs/Raised.antt.
use Rattle.std.specs.Prelude.{ℕ, ◌≡◌, true, List, [], ◌∷◌}
use Rattle.channels.specs.Channels.{has}
use Rattle.channels.specs.Raises.{Raises, raises, raised_by}
use Rattle.interrupts.specs.Interrupts.{raised}
use Rattle.timeouts.specs.Clocks.{timeout_raises}
use Rattle.lines.specs.declared.LineRegister.TheVariants.{Gpdr, Aer, Ddr}
use Rattle.lines.specs.Registers.{line_written, with_level, with_input}
use Rattle.events.specs.declared.Register.TheVariants.{OfLines, OfInterrupts, OfTimers}
use Rattle.events.specs.declared.Event.{Event}
use Rattle.events.specs.declared.Event.TheVariants.{Reset, Read, Write, Level, Input, Clocks, Acknowledge, Raise}
use Rattle.device.specs.declared.Device.{Device}
use Rattle.device.specs.Signals.{change_raises}
use Rattle.step.specs.Clocks.{timeouts_device}
use Rattle.step.specs.Events.{step_of}

-- "A DDR or control write never raises.", nor does a reset, a read or an acknowledge
abbrev pub raises_of : Device → Event → List Raises
raises_of d Reset = []
raises_of d (Read r) = []
raises_of d (Write (OfLines Gpdr) v) = []
raises_of d (Write (OfLines Aer) v) = change_raises (line_written Aer v d.lines) d
raises_of d (Write (OfLines Ddr) v) = []
raises_of d (Write (OfInterrupts r) v) = []
raises_of d (Write (OfTimers r) v) = []
raises_of d (Level i high) = change_raises (with_level i high d.lines) d
raises_of d (Input i high) = change_raises (with_input i high d.lines) d
raises_of d (Clocks n) = timeout_raises (timeouts_device n d)
raises_of d (Acknowledge iei) = []
raises_of d (Raise c) = raises 1 c ∷ []

-- an event without a rule of its own for the interrupts
abbrev pub OnlyRaises : Event → Type 0
OnlyRaises Reset = ⊥
OnlyRaises (Read r) = Unit {0}
OnlyRaises (Write (OfLines r) v) = Unit {0}
OnlyRaises (Write (OfInterrupts r) v) = ⊥
OnlyRaises (Write (OfTimers r) v) = Unit {0}
OnlyRaises (Level i high) = Unit {0}
OnlyRaises (Input i high) = Unit {0}
OnlyRaises (Clocks n) = Unit {0}
OnlyRaises (Acknowledge iei) = ⊥
OnlyRaises (Raise c) = Unit {0}

abbrev pub RaisedAtOnce : Type 0
RaisedAtOnce = (d : Device) (e : Event) → OnlyRaises e → (step_of d e).device.interrupts ≡ raised (raised_by (raises_of d e)) d.interrupts

-- an event with a rule of its own raises nothing: no channel becomes pending by it
abbrev pub OthersRaiseNothing : Type 0
OthersRaiseNothing = (d : Device) (e : Event) → (OnlyRaises e → ⊥) → (k : ℕ) → has (step_of d e).device.interrupts.pending k ≡ true → has d.interrupts.pending k ≡ true
