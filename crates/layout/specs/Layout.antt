-- Document 01, "Image, 32 bytes": the table of bytes part by part, both ways.
use Rattle.std.specs.Prelude.{ℕ, ◌+◌, ◌*◌, Bool, List, [], ◌∷◌, ◌++◌}
use Rattle.bits.specs.Bits.{bit_value}
use Rattle.bits.specs.Bytes.{byte}
use Rattle.timer.specs.declared.Timer.{Timer}
use Rattle.channels.specs.declared.Half.TheVariants.{A, B}
use Rattle.interrupts.specs.declared.Interrupts.{Interrupts}
use Rattle.channels.specs.Channels.{has, half}
use Rattle.timers.specs.declared.Timers.{Timers}
use Rattle.timers.specs.Registers.{mode_c, mode_d, tcdcr_of, outputs_of}
use Rattle.lines.specs.declared.Lines.{Lines}
use Rattle.device.specs.declared.Device.{Device}

abbrev pub image_bytes : ℕ
image_bytes = 32

-- ---- the parts of an image, in the paper's order
-- "0–1 mark 4D 31"
abbrev pub image_mark0 : ℕ
image_mark0 = 0x4D

abbrev pub image_mark1 : ℕ
image_mark1 = 0x31

-- "2 GPDR stored bits; 3 AER; 4 DDR"
abbrev pub line_bytes : Lines → List ℕ
line_bytes l = l.gpdr ∷ l.aer ∷ l.ddr ∷ []

-- "5–12 IERA to IMRB in register order; 13 VR"
abbrev pub interrupt_bytes : Interrupts → List ℕ
interrupt_bytes i =
    half A i.enabled
    ∷ half B i.enabled
    ∷ half A i.pending
    ∷ half B i.pending
    ∷ half A i.service
    ∷ half B i.service
    ∷ half A i.mask
    ∷ half B i.mask
    ∷ i.vector
    ∷ []

-- one byte of each timer
abbrev pub of_each : (Timer → ℕ) → Timers → List ℕ
of_each f t = f t.a ∷ f t.b ∷ f t.c ∷ f t.d ∷ []

-- "14, 15 modes A, B; 16 TCDCR; 17–20 data A to D; 21–24 counters; 25–28 positions; 29 outputs (bit 0 A to bit 3 D)"
abbrev pub timer_bytes : Timers → List ℕ
timer_bytes t =
    (t.a.mode ∷ t.b.mode ∷ tcdcr_of t ∷ [])
    ++ (of_each (λ x. x.reload) t ++ (of_each (λ x. x.counter) t ++ (of_each (λ x. x.position) t ++ (outputs_of t ∷ []))))

-- "30 line levels; 31 TAI bit 0, TBI bit 1"
abbrev pub level_bytes : Lines → List ℕ
level_bytes l = l.levels ∷ (bit_value l.tai 1 + bit_value l.tbi 2) ∷ []

unfoldable pub image_of : Device → List ℕ
image_of d = (image_mark0 ∷ image_mark1 ∷ []) ++ (line_bytes d.lines ++ (interrupt_bytes d.interrupts ++ (timer_bytes d.timers ++ level_bytes d.lines)))

-- ---- the same parts, read
-- a set of channels from its registers A and B, at byte k and after it
abbrev pub set_from : List ℕ → ℕ → ℕ
set_from b k = byte b k * 256 + byte b (k + 1)

unfoldable pub lines_from : List ℕ → Lines
lines_from b = record { gpdr = byte b 2; aer = byte b 3; ddr = byte b 4; levels = byte b 30; tai = has (byte b 31) 0; tbi = has (byte b 31) 1 }

unfoldable pub interrupts_from : List ℕ → Interrupts
interrupts_from b = record { enabled = set_from b 5; pending = set_from b 7; service = set_from b 9; mask = set_from b 11; vector = byte b 13 }

-- the timer of this mode and output whose data value stands at byte k: its counter and its position stand four and eight bytes on
abbrev pub timer_from : List ℕ → ℕ → ℕ → Bool → Timer
timer_from b k mode output = record { mode = mode; reload = byte b k; counter = byte b (k + 4); position = byte b (k + 8); output = output }

unfoldable pub timers_from : List ℕ → Timers
timers_from b = record {
  a = timer_from b 17 (byte b 14) (has (byte b 29) 0);
  b = timer_from b 18 (byte b 15) (has (byte b 29) 1);
  c = timer_from b 19 (mode_c (byte b 16)) (has (byte b 29) 2);
  d = timer_from b 20 (mode_d (byte b 16)) (has (byte b 29) 3);
}

abbrev pub device_of : List ℕ → Device
device_of b = record { lines = lines_from b; interrupts = interrupts_from b; timers = timers_from b }
