-- For private functions and proofs alone: no rule of the paper stands here, and no public contract cites it.
use Rattle.std.specs.Prelude.{ℕ, ◌*◌, ◌≡◌, true}
use Rattle.answer.specs.Answers.{answer_bytes}
use Rattle.device.specs.declared.Device.{Device}
use Rattle.device.specs.declared.Stepped.{Stepped}
use Rattle.device.specs.Whole.{image_rule}
use Rattle.events.specs.declared.Event.{Event}
use Rattle.events.specs.Ranges.{in_range}
use Rattle.step.specs.Events.{step_of}
use Rattle.transcript.specs.Transcript.{records_most}

-- room for the answers of the longest tape
abbrev pub answers_most : ℕ
answers_most = answer_bytes * records_most

-- a step may be asked for every event in range of a device that keeps the image rule
abbrev pub MayStep : (Device → Event → Type 0) → Type 0
MayStep pre = (d : Device) (e : Event) → image_rule d ≡ true → in_range e ≡ true → pre d e

-- a step gives what the paper's gives, of an event in range of a device that keeps the image rule
abbrev pub Steps : (Device → Event → Stepped → Type 0) → Type 0
Steps post = (d : Device) (e : Event) (s : Stepped) → image_rule d ≡ true → in_range e ≡ true → post d e s → s ≡ step_of d e
