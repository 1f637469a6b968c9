-- Document 01, "Channels", of a whole device and on tapes: "the highest requesting channel c gives the vector (VR bits 7 to 4) × 16 + c, its pending bit is cleared, and its in-service bit is set if S is 1." No neighbour loses its bit.
-- Proved in proofs/Acknowledges.antt.
use Rattle.std.specs.Prelude.{ℕ, ◌+◌, ◌*◌, ◌/◌, ◌%◌, ◌<◌, ◌≡◌, Bool, true, false, List}
use Rattle.channels.specs.Channels.{has}
use Rattle.interrupts.specs.Interrupts.{S}
use Rattle.requests.specs.Requests as R
use Rattle.device.specs.declared.Device.{Device}
use Rattle.events.specs.declared.Event.TheVariants.{Acknowledge}
use Rattle.events.specs.declared.Answer.TheVariants.{Vector}
use Rattle.device.specs.Whole.{irq_of}
use Rattle.step.specs.Events.{step_of}
use Rattle.tape.specs.Tapes.{records}
use Rattle.run.specs.Runs.{result_of}
use Rattle.demands.specs.Refusals.{RecordMeans}
use Rattle.demands.specs.Tapes.{device_before, answer_to, class_at, value_at}

-- a device before and after an acknowledge that gave channel c's vector v
pub record Gave (before after : Device) (c v : ℕ) : Type 0 where
  -- "the highest requesting channel c" of the sixteen
  pub channel : c < 16
  pub requests : R.requests before.interrupts c ≡ true
  pub highest : (k : ℕ) → c < k → k < 16 → R.requests before.interrupts k ≡ false
  -- "gives the vector (VR bits 7 to 4) × 16 + c"
  pub gives : v ≡ before.interrupts.vector / 16 * 16 + c
  -- "its pending bit is cleared", and that of every other channel is as it was
  pub cleared : has after.interrupts.pending c ≡ false
  pub pending : (k : ℕ) → k < 16 → (k ≡ c → ⊥) → has after.interrupts.pending k ≡ has before.interrupts.pending k
  -- "and its in-service bit is set if S is 1", and that of every other channel is as it was
  pub served : has after.interrupts.service c ≡ S before.interrupts.vector
  pub service : (k : ℕ) → (k ≡ c → ⊥) → has after.interrupts.service k ≡ has before.interrupts.service k
  -- all else stays
  pub enabled : after.interrupts.enabled ≡ before.interrupts.enabled
  pub mask : after.interrupts.mask ≡ before.interrupts.mask
  pub vector : after.interrupts.vector ≡ before.interrupts.vector
  pub lines : after.lines ≡ before.lines
  pub timers : after.timers ≡ before.timers

-- ---- an acknowledge of a device
-- the channel is the vector's low half
abbrev pub GivesVector : Type 0
GivesVector = (d : Device) (iei : Bool) (v : ℕ) → (step_of d (Acknowledge iei)).answer ≡ Vector v → Gave d (step_of d (Acknowledge iei)).device (v % 16) v

-- as long as the device asserts IRQ, an acknowledge with IEI asserted gives a vector: no request is passed on or lost
pub record Served (d : Device) : Type 0 where
  pub value : ℕ
  pub answers : (step_of d (Acknowledge true)).answer ≡ Vector value

abbrev pub RequestIsServed : Type 0
RequestIsServed = (d : Device) → irq_of d ≡ true → Served d

-- "where the acknowledge yields no vector, nothing changes"
abbrev pub NoVector : Type 0
NoVector = (d : Device) (iei : Bool) → ((v : ℕ) → (step_of d (Acknowledge iei)).answer ≡ Vector v → ⊥) → (step_of d (Acknowledge iei)).device ≡ d

-- ---- an acknowledge on a tape, by the answer's bytes: class "2 vector", or another
abbrev pub TapeGivesVector : Type 0
TapeGivesVector =
    (image tape answers : List ℕ) (i : ℕ) (iei : Bool)
    → result_of image tape answers ≡ 0
    → i < records tape
    → RecordMeans tape i (Acknowledge iei)
    → class_at (answer_to image tape answers i) ≡ 2
    → let v : ℕ = value_at (answer_to image tape answers i) in
    Gave (device_before image tape i) (device_before image tape (i + 1)) (v % 16) v

abbrev pub TapeNoVector : Type 0
TapeNoVector =
    (image tape answers : List ℕ) (i : ℕ) (iei : Bool)
    → result_of image tape answers ≡ 0
    → i < records tape
    → RecordMeans tape i (Acknowledge iei)
    → (class_at (answer_to image tape answers i) ≡ 2 → ⊥)
    → device_before image tape (i + 1) ≡ device_before image tape i
