-- Refusals 3 and 7 of a device record, and 1 and 3 of its save: each exactly under its condition. Proved in proofs/Entries.antt.
use Rattle.std.specs.Prelude.{ℕ, ◌≡◌, true, false, ◌↔◌, List, length, Err}
use Rattle.events.specs.declared.Event.{Event}
use Rattle.events.specs.declared.Refusal.TheVariants.{ImageLength, ImageRule, Operand}
use Rattle.events.specs.Ranges.{in_range}
use Rattle.device.specs.declared.Device.{Device}
use Rattle.device.specs.Whole.{image_rule}
use Rattle.lent.specs.Handling.{handled_of}
use Rattle.layout.specs.Layout.{image_bytes}
use Rattle.image.specs.Image.{saved_of}

-- ---- an event of a record
-- 3: "device record breaks the image rule"
abbrev pub RecordRefusedByRule : Type 0
RecordRefusedByRule = (d : Device) (e : Event) → ((handled_of d e).outcome ≡ Err ImageRule) ↔ (image_rule d ≡ false)

-- 7: "operand out of range", of a record that keeps the rule
abbrev pub RecordRefusedByOperand : Type 0
RecordRefusedByOperand = (d : Device) (e : Event) → ((handled_of d e).outcome ≡ Err Operand) ↔ ((image_rule d ≡ true) × (in_range e ≡ false))

-- ---- a save of a record
-- 1: "image buffer is not 32 bytes"
abbrev pub SaveRefusedByLength : Type 0
SaveRefusedByLength = (d : Device) (b : List ℕ) → (saved_of d b ≡ Err ImageLength) ↔ (length b ≡ image_bytes → ⊥)

-- 3, of a buffer of the right length
abbrev pub SaveRefusedByRule : Type 0
SaveRefusedByRule = (d : Device) (b : List ℕ) → (saved_of d b ≡ Err ImageRule) ↔ ((length b ≡ image_bytes) × (image_rule d ≡ false))
