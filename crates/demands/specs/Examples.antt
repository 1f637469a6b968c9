-- Document 01, "Bench examples (P: prove)": "one proved table about the rules themselves". B1 and B2 are the two that are not marked P.
-- Proved in proofs/Examples.antt, P1 as `P1_holds` and so on.
use Rattle.std.specs.Prelude.{ℕ, ◌+◌, ◌*◌, ◌/◌, ◌%◌, ◌^◌, ◌<◌, ◌≡◌, Bool, true, false}
use Rattle.timer.specs.declared.Timer.{Timer}
use Rattle.timer.specs.Timers.{delay, divisor, clocks, timeouts, fresh_timer}
use Rattle.channels.specs.declared.Half.{Half}
use Rattle.channels.specs.declared.Half.TheVariants.{A, B}
use Rattle.interrupts.specs.declared.Interrupts.{Interrupts}
use Rattle.channels.specs.Channels.{has}
use Rattle.requests.specs.Requests.{requests}
use Rattle.lines.specs.declared.Lines.{Lines}
use Rattle.device.specs.declared.Device.{Device}
use Rattle.interrupts.specs.declared.InterruptRegister.TheVariants.{Ier, Ipr, Imr}
use Rattle.timers.specs.declared.TimerRegister.TheVariants.{Tcdr}
use Rattle.lines.specs.declared.LineRegister.TheVariants.{Aer}
use Rattle.events.specs.declared.Register.TheVariants.{OfLines, OfInterrupts, OfTimers}
use Rattle.lines.specs.declared.TimerInput.TheVariants.{Tai}
use Rattle.events.specs.declared.Event.TheVariants.{Read, Write, Input, Clocks, Acknowledge}
use Rattle.events.specs.declared.Answer.TheVariants.{Data, Vector, PassedOn, Held}
use Rattle.timeouts.specs.Clocks.{none}
use Rattle.device.specs.Whole.{read_of, with_interrupts}
use Rattle.device.specs.Whole.{fresh_device, irq_of}
use Rattle.step.specs.Events.{step_of}

-- ---- acknowledge
-- "P1 fresh, acknowledge with IEI: passed on."
abbrev pub P1 : Type 0
P1 = (step_of fresh_device (Acknowledge true)).answer ≡ PassedOn

-- "P2 a request, IEI not asserted: held.", and nothing changes
abbrev pub P2 : Type 0
P2 = (d : Device) → irq_of d ≡ true → ((step_of d (Acknowledge false)).answer ≡ Held) × ((step_of d (Acknowledge false)).device ≡ d)

-- ---- timers
-- "delay mode from position 0", of this divisor, "data and counter" this (mode 1 has divisor 4, mode 7 divisor 200)
pub record Delays (by value : ℕ) (t : Timer) : Type 0 where
  pub mode : delay t.mode ≡ true
  pub divides : divisor t.mode ≡ by
  pub position : t.position ≡ 0
  pub reload : t.reload ≡ value
  pub counter : t.counter ≡ value

-- "P3 delay mode from position 0, divisor 4, data and counter 1: 3 clocks no timeout, 4 clocks one.", whether the input is active or not
abbrev pub P3 : Type 0
P3 = (active : Bool) (t : Timer) → Delays 4 1 t → (timeouts active 3 t ≡ 0) × (timeouts active 4 t ≡ 1)

-- "P4 likewise, divisor 200, data and counter 0: 51,199 none, 51,200 one."
abbrev pub P4 : Type 0
P4 = (active : Bool) (t : Timer) → Delays 200 0 t → (timeouts active 51_199 t ≡ 0) × (timeouts active 51_200 t ≡ 1)

-- "P5 0 clocks: nothing."
abbrev pub P5 : Type 0
P5 = (d : Device) → ((step_of d (Clocks 0)).device ≡ d) × ((step_of d (Clocks 0)).timeouts ≡ none)

-- "P6 as P3 with 4,294,967,295 clocks from output low: 1,073,741,823 timeouts, position 3, output high."
abbrev pub P6 : Type 0
P6 = (active : Bool) (t : Timer) → Delays 4 1 t → t.output ≡ false
    → let after : Timer = clocks active 4_294_967_295 t in
    (timeouts active 4_294_967_295 t ≡ 1_073_741_823) × (after.position ≡ 3) × (after.output ≡ true)

-- ---- the interrupt controller
-- "P7 IER bit cleared: pending goes, in-service stays.", of each bit of both registers
abbrev pub P7 : Type 0
P7 = (d : Device) (h : Half) (v k : ℕ) → has v k ≡ false
    → let after : Device = (step_of d (Write (OfInterrupts (Ier h)) v)).device in
    (has (read_of (OfInterrupts (Ipr h)) after) k ≡ false) × (after.interrupts.service ≡ d.interrupts.service)

-- "P8 one channel pending and masked, none in service: no IRQ; mask set: IRQ.", of each channel; its mask bit is written in IMRA or IMRB
abbrev pub masked : ℕ → Device → Device
masked c d = with_interrupts (record { enabled = 2 ^ c; pending = 2 ^ c; service = 0; mask = 0; vector = 0x48 }) d

abbrev pub unmasked : ℕ → Device → Device
unmasked c d = (step_of (step_of (masked c d) (Write (OfInterrupts (Imr A)) (2 ^ c / 256))).device (Write (OfInterrupts (Imr B)) (2 ^ c % 256))).device

abbrev pub P8 : Type 0
P8 = (d : Device) (c : ℕ) → c < 16 → (irq_of (masked c d) ≡ false) × (irq_of (unmasked c d) ≡ true)

-- "P9 IPRA 21: write DF gives 01; write FF leaves 21."
abbrev pub P9 : Type 0
P9 = (d : Device) → read_of (OfInterrupts (Ipr A)) d ≡ 0x21 → (read_of (OfInterrupts (Ipr A)) (step_of d (Write (OfInterrupts (Ipr A)) 0xDF)).device ≡ 0x01) × (read_of (OfInterrupts (Ipr A)) (step_of d (Write (OfInterrupts (Ipr A)) 0xFF)).device ≡ 0x21)

-- "P10 8 and 13 pending and unmasked, only 8 in service: 8 does not request, 13 does.", and an acknowledge gives 13's vector
abbrev pub P10 : Type 0
P10 = (d : Device) → let i : Interrupts = d.interrupts in i.pending ≡ 2 ^ 8 + 2 ^ 13 → has i.mask 8 ≡ true → has i.mask 13 ≡ true → i.service ≡ 2 ^ 8
    → (requests i 8 ≡ false) × (requests i 13 ≡ true) × ((step_of d (Acknowledge true)).answer ≡ Vector (i.vector / 16 * 16 + 13))

-- ---- lines and inputs
-- these lines, this set enabled, this timer A, a fresh timer B; nothing is pending or in service
abbrev pub wired : Lines → ℕ → Timer → Device → Device
wired l enabled a d = record {
  lines = l;
  interrupts = record { enabled = enabled; pending = 0; service = 0; mask = d.interrupts.mask; vector = d.interrupts.vector };
  timers = record { a = a; b = fresh_timer; c = d.timers.c; d = d.timers.d };
}

-- "P11 line 5 high and an input, channel 7 enabled, AER bit 5 from 0 to 1: IPRB 00 becomes 80."
abbrev pub line5_high : Device → Device
line5_high d = wired (record { gpdr = 0x00; aer = 0x00; ddr = 0x00; levels = 0x20; tai = false; tbi = false }) (2 ^ 7) fresh_timer d

abbrev pub P11 : Type 0
P11 = (d : Device) → (read_of (OfInterrupts (Ipr B)) (line5_high d) ≡ 0x00) × (read_of (OfInterrupts (Ipr B)) (step_of (line5_high d) (Write (OfLines Aer) 0x20)).device ≡ 0x80)

-- "P12 pulse mode A, AER bit 4 is 1, channel 6 enabled: TAI 1 to 0 sets it, 0 to 1 does not."
abbrev pub pulse_mode_a : Bool → Device → Device
pulse_mode_a tai d = wired (record { gpdr = 0x00; aer = 0x10; ddr = 0x00; levels = 0x00; tai = tai; tbi = false }) (2 ^ 6) (record { mode = 9; reload = 0; counter = 0; position = 0; output = false }) d

abbrev pub P12 : Type 0
P12 = (d : Device) → (read_of (OfInterrupts (Ipr B)) (step_of (pulse_mode_a true d) (Input Tai false)).device ≡ 0x40) × (read_of (OfInterrupts (Ipr B)) (step_of (pulse_mode_a false d) (Input Tai true)).device ≡ 0x00)

-- ---- timer data
-- "Running with counter 3, TCDR written 9: counter stays 3."
abbrev pub B1 : Type 0
B1 = (d : Device) → delay d.timers.c.mode ≡ true → d.timers.c.counter ≡ 3 → (step_of d (Write (OfTimers Tcdr) 9)).device.timers.c.counter ≡ 3

-- "Divisor 4, data 3, 4 clocks, read: 2."
abbrev pub B2 : Type 0
B2 = (d : Device) → Delays 4 3 d.timers.c → (step_of (step_of d (Clocks 4)).device (Read (OfTimers Tcdr))).answer ≡ Data 2
