-- Document 02, 1/13: "an acknowledge over a row of one to eight devices lent together", sentence by sentence, of the rules in crate row. Proved in proofs/Rows.antt.
use Rattle.std.specs.Prelude.{ℕ, ◌%◌, ◌<◌, ◌≤◌, ◌≡◌, true, false, cond, not, ◌&&◌, List, [], ◌∷◌, ◌++◌, Option, Some, None, Result, Ok, Err, map, ltb, length, take}
use Rattle.channels.specs.Channels.{has}
use Rattle.timeouts.specs.Clocks.{none}
use Rattle.events.specs.declared.Event.TheVariants.{Acknowledge}
use Rattle.events.specs.declared.Answer.TheVariants.{PassedOn, Held}
use Rattle.events.specs.declared.Refusal.TheVariants.{ImageRule, RowLength}
use Rattle.events.specs.declared.RefusedAt.{RefusedAt}
use Rattle.device.specs.declared.Device.{Device}
use Rattle.device.specs.declared.Stepped.{Stepped}
use Rattle.device.specs.Whole.{irq_of, image_rule}
use Rattle.step.specs.Events.{step_of}
use Rattle.row.specs.declared.Given.{Given}
use Rattle.row.specs.Rows.{ieo, acknowledged_row, given_or, row_answer, row_after}
use Rattle.demands.specs.Acknowledges.{Gave}

-- ---- the words of the request
-- none of these devices requests: none asserts IRQ
abbrev pub NoneRequests : List Device → Type 0
NoneRequests [] = Unit {0}
NoneRequests (d ∷ ds) = (irq_of d ≡ false) × NoneRequests ds

abbrev pub EachKeepsTheRule : List Device → Type 0
EachKeepsTheRule [] = Unit {0}
EachKeepsTheRule (d ∷ ds) = (image_rule d ≡ true) × EachKeepsTheRule ds

-- "a row of one to eight devices"
pub record OneToEight (ds : List Device) : Type 0 where
  pub some : 0 < length ds
  pub most : length ds ≤ 8

-- a row that is not refused
pub record AcceptedRow (ds : List Device) : Type 0 where
  pub fits : OneToEight ds
  pub kept : EachKeepsTheRule ds

-- a device that passes on, and one that is held: unchanged
abbrev pub passed_on : Device → Stepped
passed_on d = record { device = d; answer = PassedOn; timeouts = none }

abbrev pub held : Device → Stepped
held d = record { device = d; answer = Held; timeouts = none }

-- ---- "The first device that requests gives its vector and changes as in document 01; those above it pass on and those below are held, all unchanged."
pub record RowGave (above : List Device) (d : Device) (below : List Device) : Type 0 where
  pub value : ℕ
  pub changes : Gave d (step_of d (Acknowledge true)).device (value % 16) value
  -- each device's class and state
  pub classes : acknowledged_row (above ++ (d ∷ below)) ≡ map passed_on above ++ (step_of d (Acknowledge true) ∷ map held below)
  -- what the call answers and leaves
  pub answers : row_answer (above ++ (d ∷ below)) ≡ Ok (Some (record { index = length above; vector = value }))
  pub leaves : row_after (above ++ (d ∷ below)) ≡ above ++ ((step_of d (Acknowledge true)).device ∷ below)

abbrev pub FirstThatRequestsGives : Type 0
FirstThatRequestsGives = (above : List Device) (d : Device) (below : List Device) → AcceptedRow (above ++ (d ∷ below)) → NoneRequests above → irq_of d ≡ true → RowGave above d below

-- ---- "Where none requests, all pass on unchanged."
abbrev pub NoneRequestsAllPass : Type 0
NoneRequestsAllPass = (ds : List Device) → AcceptedRow ds → NoneRequests ds → (acknowledged_row ds ≡ map passed_on ds) × (row_answer ds ≡ Ok None) × (row_after ds ≡ ds)

-- ---- "An in-service bit alone does not hold back IEO"
-- a device without a channel that is pending and unmasked lets the acknowledge through to those below, whatever is in service
abbrev pub ServiceAloneHoldsNothingBack : Type 0
ServiceAloneHoldsNothingBack =
    (d : Device) (ds : List Device)
    → ((c : ℕ) → c < 16 → (has d.interrupts.pending c && has d.interrupts.mask c) ≡ false)
    → acknowledged_row (d ∷ ds) ≡ passed_on d ∷ acknowledged_row ds

-- and of any device: with IEI asserted, its IEO is asserted exactly if its IRQ is not
abbrev pub IeoIsNotIrq : Type 0
IeoIsNotIrq = (d : Device) → ieo (step_of d (Acknowledge true)).answer ≡ not (irq_of d)

-- ---- "In an accepted row the answer and state of a device never depend on any device after it."
-- who gave, and the row's answer, as far as it concerns the first n devices
abbrev pub given_up_to : ℕ → Option Given → Option Given
given_up_to n (Some g) = cond (ltb g.index n) (Some g) None
given_up_to n None = None

abbrev pub up_to : ℕ → Result (Option Given) RefusedAt → Result (Option Given) RefusedAt
up_to n (Ok g) = Ok (given_up_to n g)
up_to n (Err r) = Err r

-- two accepted rows that agree in their first n devices agree there in each answer and state, in what the call leaves and in what it answers
pub record AgreeUpTo (n : ℕ) (ds es : List Device) : Type 0 where
  pub classes : take n (acknowledged_row ds) ≡ take n (acknowledged_row es)
  pub leaves : take n (row_after ds) ≡ take n (row_after es)
  pub answers : up_to n (row_answer ds) ≡ up_to n (row_answer es)

abbrev pub NoDeviceDependsOnThoseAfterIt : Type 0
NoDeviceDependsOnThoseAfterIt = (n : ℕ) (ds es : List Device) → AcceptedRow ds → AcceptedRow es → take n ds ≡ take n es → AgreeUpTo n ds es

-- ---- a row of one is document 01's acknowledge with IEI asserted
abbrev pub RowOfOne : Type 0
RowOfOne =
    (d : Device) → image_rule d ≡ true
    → (row_answer (d ∷ []) ≡ Ok (given_or (step_of d (Acknowledge true)).answer 0 None)) × (row_after (d ∷ []) ≡ (step_of d (Acknowledge true)).device ∷ [])

-- ---- whatever the row
abbrev pub RowKeepsLength : Type 0
RowKeepsLength = (ds : List Device) → length (row_after ds) ≡ length ds

abbrev pub RowKeepsRule : Type 0
RowKeepsRule = (ds : List Device) → EachKeepsTheRule ds → EachKeepsTheRule (row_after ds)

-- so the next acknowledge accepts what an accepted one leaves
abbrev pub AcceptedRowStaysAccepted : Type 0
AcceptedRowStaysAccepted = (ds : List Device) → AcceptedRow ds → AcceptedRow (row_after ds)

-- ---- "Refusals: 10 for a row of none or more than eight, checked first; then 3 for the first device that breaks the image rule, with its index. A refusal leaves the whole row unchanged."
abbrev pub LengthIsCheckedFirst : Type 0
LengthIsCheckedFirst = (ds : List Device) → (OneToEight ds → ⊥) → row_answer ds ≡ Err (record { refusal = RowLength; index = 0 })

abbrev pub ThenTheFirstBroken : Type 0
ThenTheFirstBroken =
    (above : List Device) (d : Device) (below : List Device) → OneToEight (above ++ (d ∷ below)) → EachKeepsTheRule above → image_rule d ≡ false
    → row_answer (above ++ (d ∷ below)) ≡ Err (record { refusal = ImageRule; index = length above })

abbrev pub RefusedRowUnchanged : Type 0
RefusedRowUnchanged = (ds : List Device) (r : RefusedAt) → row_answer ds ≡ Err r → row_after ds ≡ ds

-- and nothing else is refused
abbrev pub AcceptedRowIsNotRefused : Type 0
AcceptedRowIsNotRefused = (ds : List Device) (r : RefusedAt) → AcceptedRow ds → row_answer ds ≡ Err r → ⊥
