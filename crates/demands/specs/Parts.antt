-- What each event may change: the table `touched`, an event a row, and the statement that an event changes nothing but its row. 01 has no such sentence; it follows from the rules, as "No read changes anything.", "in-service bits stay", "A DDR or control write never raises." Proved in proofs/Parts.antt.
use Rattle.std.specs.Prelude.{ℕ, ◌≡◌, Bool, false, ◌&&◌, ◌||◌, List, [], ◌∷◌, eqb}
use Rattle.bits.specs.Bits.{bit_value}
use Rattle.timer.specs.declared.Timer.{Timer}
use Rattle.channels.specs.declared.Half.{Half}
use Rattle.channels.specs.declared.Half.TheVariants.{A as HighHalf, B as LowHalf}
use Rattle.interrupts.specs.declared.InterruptRegister.TheVariants.{Ier, Ipr, Isr, Imr, Vr}
use Rattle.channels.specs.Channels.{half}
use Rattle.timers.specs.declared.Timers.{Timers}
use Rattle.timers.specs.declared.TimerRegister.TheVariants.{Tacr, Tbcr, Tcdcr, Tadr, Tbdr, Tcdr, Tddr}
use Rattle.lines.specs.declared.LineRegister.TheVariants.{Gpdr, Aer, Ddr}
use Rattle.lines.specs.declared.TimerInput.TheVariants.{Tai, Tbi}
use Rattle.events.specs.declared.Register.{Register}
use Rattle.events.specs.declared.Register.TheVariants.{OfLines, OfInterrupts, OfTimers}
use Rattle.events.specs.declared.Event.{Event}
use Rattle.events.specs.declared.Event.TheVariants.{Reset, Read, Write, Level, Input, Clocks, Acknowledge, Raise}
use Rattle.device.specs.declared.Device.{Device}
use Rattle.step.specs.Events.{step_of}
use Rattle.demands.specs.Rule.{WritesByte}

-- ---- the parts of a device: each register by itself, A's and B's apart, and each timer's fields
pub data Name : Type 0 where
  A B C D : Name

pub data Part : Type 0 where
  gpdr aer ddr levels tai tbi vector : Part
  enabled pending service mask : Half → Part
  mode reload counter position output : Name → Part

abbrev pub timer_named : Name → Timers → Timer
timer_named A t = t.a
timer_named B t = t.b
timer_named C t = t.c
timer_named D t = t.d

-- what a device has there, as a number
abbrev pub part_of : Part → Device → ℕ
part_of gpdr x = x.lines.gpdr
part_of aer x = x.lines.aer
part_of ddr x = x.lines.ddr
part_of levels x = x.lines.levels
part_of tai x = bit_value x.lines.tai 1
part_of tbi x = bit_value x.lines.tbi 1
part_of vector x = x.interrupts.vector
part_of (enabled h) x = half h x.interrupts.enabled
part_of (pending h) x = half h x.interrupts.pending
part_of (service h) x = half h x.interrupts.service
part_of (mask h) x = half h x.interrupts.mask
part_of (mode n) x = (timer_named n x.timers).mode
part_of (reload n) x = (timer_named n x.timers).reload
part_of (counter n) x = (timer_named n x.timers).counter
part_of (position n) x = (timer_named n x.timers).position
part_of (output n) x = bit_value (timer_named n x.timers).output 1

-- ---- the table
abbrev pub both_halves : (Half → Part) → List Part → List Part
both_halves p more = p HighHalf ∷ p LowHalf ∷ more

-- what a write of a register may change
abbrev pub by_write : Register → List Part
by_write (OfLines Gpdr) = gpdr ∷ []
by_write (OfLines Aer) = aer ∷ both_halves pending (counter A ∷ output A ∷ counter B ∷ output B ∷ [])
by_write (OfLines Ddr) = ddr ∷ []
by_write (OfInterrupts (Ier h)) = enabled h ∷ pending h ∷ []
by_write (OfInterrupts (Ipr h)) = pending h ∷ []
by_write (OfInterrupts (Isr h)) = service h ∷ []
by_write (OfInterrupts (Imr h)) = mask h ∷ []
by_write (OfInterrupts Vr) = vector ∷ both_halves service []
by_write (OfTimers Tacr) = mode A ∷ position A ∷ output A ∷ []
by_write (OfTimers Tbcr) = mode B ∷ position B ∷ output B ∷ []
by_write (OfTimers Tcdcr) = mode C ∷ position C ∷ mode D ∷ position D ∷ []
by_write (OfTimers Tadr) = reload A ∷ counter A ∷ []
by_write (OfTimers Tbdr) = reload B ∷ counter B ∷ []
by_write (OfTimers Tcdr) = reload C ∷ counter C ∷ []
by_write (OfTimers Tddr) = reload D ∷ counter D ∷ []

-- what a timer's clocks may change, and what a reset may
abbrev pub moving : Name → List Part → List Part
moving n more = counter n ∷ position n ∷ output n ∷ more

abbrev pub stopping : Name → List Part → List Part
stopping n more = mode n ∷ position n ∷ output n ∷ more

-- what an event may change
abbrev pub touched : Event → List Part
touched Reset = gpdr ∷ aer ∷ ddr ∷ vector ∷ both_halves enabled (both_halves pending (both_halves service (both_halves mask (stopping A (stopping B (stopping C (stopping D [])))))))
touched (Read r) = []
touched (Write r v) = by_write r
touched (Level i high) = levels ∷ both_halves pending []
touched (Input Tai high) = tai ∷ both_halves pending (counter A ∷ output A ∷ [])
touched (Input Tbi high) = tbi ∷ both_halves pending (counter B ∷ output B ∷ [])
touched (Clocks n) = both_halves pending (moving A (moving B (moving C (moving D []))))
touched (Acknowledge iei) = both_halves pending (both_halves service [])
touched (Raise c) = both_halves pending []

-- ---- whether a part is among some
abbrev pub half_number : Half → ℕ
half_number HighHalf = 0
half_number LowHalf = 1

abbrev pub name_number : Name → ℕ
name_number A = 0
name_number B = 1
name_number C = 2
name_number D = 3

-- a number of its own for each part: its row, and its place in the row
abbrev pub row_of : Part → ℕ
row_of gpdr = 0
row_of aer = 1
row_of ddr = 2
row_of levels = 3
row_of tai = 4
row_of tbi = 5
row_of vector = 6
row_of (enabled h) = 7
row_of (pending h) = 8
row_of (service h) = 9
row_of (mask h) = 10
row_of (mode n) = 11
row_of (reload n) = 12
row_of (counter n) = 13
row_of (position n) = 14
row_of (output n) = 15

abbrev pub place_of : Part → ℕ
place_of gpdr = 0
place_of aer = 0
place_of ddr = 0
place_of levels = 0
place_of tai = 0
place_of tbi = 0
place_of vector = 0
place_of (enabled h) = half_number h
place_of (pending h) = half_number h
place_of (service h) = half_number h
place_of (mask h) = half_number h
place_of (mode n) = name_number n
place_of (reload n) = name_number n
place_of (counter n) = name_number n
place_of (position n) = name_number n
place_of (output n) = name_number n

abbrev pub among : Part → List Part → Bool
among p [] = false
among p (q ∷ qs) = (eqb (row_of p) (row_of q) && eqb (place_of p) (place_of q)) || among p qs

-- ---- the statements
-- an event leaves every part that its row does not name
abbrev pub AnEventChangesOnlyItsRow : Type 0
AnEventChangesOnlyItsRow = (x : Device) (e : Event) → WritesByte e → (p : Part) → among p (touched e) ≡ false → part_of p (step_of x e).device ≡ part_of p x

-- and the parts are the whole device
abbrev pub PartsAreAll : Type 0
PartsAreAll = (x y : Device) → ((p : Part) → part_of p x ≡ part_of p y) → x ≡ y
