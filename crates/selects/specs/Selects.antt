-- Document 01, "Registers": the register of each select.
use Rattle.std.specs.Prelude.{ℕ, List, [], ◌∷◌, get_or, Option, Some, None}
use Rattle.channels.specs.declared.Half.TheVariants.{A, B}
use Rattle.interrupts.specs.declared.InterruptRegister.TheVariants.{Ier, Ipr, Isr, Imr, Vr}
use Rattle.timers.specs.declared.TimerRegister.TheVariants.{Tacr, Tbcr, Tcdcr, Tadr, Tbdr, Tcdr, Tddr}
use Rattle.lines.specs.declared.LineRegister.TheVariants.{Gpdr, Aer, Ddr}
use Rattle.events.specs.declared.Register.TheVariants.{OfLines, OfInterrupts, OfTimers}
use Rattle.events.specs.declared.Register.{Register}

-- "0 GPDR, 1 AER, 2 DDR, 3/4 IERA/IERB, 5/6 IPRA/IPRB, 7/8 ISRA/ISRB, 9/10 IMRA/IMRB, 11 VR, 12 TACR, 13 TBCR, 14 TCDCR, 15 to 18 TADR to TDDR"
abbrev pub registers : List (Option Register)
registers =
    Some (OfLines Gpdr)
    ∷ Some (OfLines Aer)
    ∷ Some (OfLines Ddr)
    ∷ Some (OfInterrupts (Ier A))
    ∷ Some (OfInterrupts (Ier B))
    ∷ Some (OfInterrupts (Ipr A))
    ∷ Some (OfInterrupts (Ipr B))
    ∷ Some (OfInterrupts (Isr A))
    ∷ Some (OfInterrupts (Isr B))
    ∷ Some (OfInterrupts (Imr A))
    ∷ Some (OfInterrupts (Imr B))
    ∷ Some (OfInterrupts Vr)
    ∷ Some (OfTimers Tacr)
    ∷ Some (OfTimers Tbcr)
    ∷ Some (OfTimers Tcdcr)
    ∷ Some (OfTimers Tadr)
    ∷ Some (OfTimers Tbdr)
    ∷ Some (OfTimers Tcdr)
    ∷ Some (OfTimers Tddr)
    ∷ []

-- the register of a select; "19 SCR, 20 UCR, 21 RSR, 22 TSR, 23 UDR" are the serial port's
unfoldable pub register_of : ℕ → Option Register
register_of rs = get_or registers rs None

-- what a read selects, and what a write does: the same, until the serial port's registers come in one by one
unfoldable pub read_select : ℕ → Option Register
read_select rs = register_of rs

unfoldable pub write_select : ℕ → Option Register
write_select rs = register_of rs

-- the register that is known; of the serial port, which the check refuses, the first
abbrev pub known_of : Option Register → Register
known_of (Some r) = r
known_of None = OfLines Gpdr
