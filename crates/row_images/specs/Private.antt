-- For private functions alone: no rule of the paper stands here, and no public contract cites it.
use Rattle.std.specs.Prelude.{ℕ, Bool, List, [], ◌∷◌}
use Rattle.bits.specs.Bits.{bit_value}
use Rattle.events.specs.declared.Event.TheVariants.{Acknowledge}
use Rattle.device.specs.declared.Stepped.{Stepped}
use Rattle.step.specs.Events.{step_of}
use Rattle.layout.specs.Layout.{device_of}
use Rattle.record.specs.Records.{record_mark0, record_mark1}

-- the record of an acknowledge, kind 6
abbrev pub acknowledge_record : Bool → List ℕ
acknowledge_record iei = record_mark0 ∷ record_mark1 ∷ 6 ∷ bit_value iei 1 ∷ 0 ∷ 0 ∷ 0 ∷ 0 ∷ []

-- what the acknowledge of an image's device comes to
abbrev pub stepped : List ℕ → Bool → Stepped
stepped image iei = step_of (device_of image) (Acknowledge iei)
