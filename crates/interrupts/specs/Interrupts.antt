-- Document 01, "Registers" and "Channels": the rules of the interrupt controller, in the paper's words.
use Rattle.std.specs.Prelude.{ℕ, ◌*◌, ◌/◌, ◌%◌, Bool, cond, ◌&&◌, ◌||◌, eqb}
use Rattle.std.specs.Int.Bits.{bit_and, bit_or}
use Rattle.channels.specs.Channels.{has, half, with_half}
use Rattle.channels.specs.declared.Half.{Half}
use Rattle.interrupts.specs.declared.Interrupts.{Interrupts}
use Rattle.interrupts.specs.declared.InterruptRegister.{InterruptRegister}
use Rattle.interrupts.specs.declared.InterruptRegister.TheVariants.{Ier, Ipr, Isr, Imr, Vr}

-- ---- the interrupts with one part stored
abbrev pub with_enabled : ℕ → Interrupts → Interrupts
with_enabled s i = record { enabled = s; pending = i.pending; service = i.service; mask = i.mask; vector = i.vector }

abbrev pub with_pending : ℕ → Interrupts → Interrupts
with_pending s i = record { enabled = i.enabled; pending = s; service = i.service; mask = i.mask; vector = i.vector }

abbrev pub with_service : ℕ → Interrupts → Interrupts
with_service s i = record { enabled = i.enabled; pending = i.pending; service = s; mask = i.mask; vector = i.vector }

abbrev pub with_mask : ℕ → Interrupts → Interrupts
with_mask s i = record { enabled = i.enabled; pending = i.pending; service = i.service; mask = s; vector = i.vector }

abbrev pub with_vector : ℕ → Interrupts → Interrupts
with_vector v i = record { enabled = i.enabled; pending = i.pending; service = i.service; mask = i.mask; vector = v }

-- ---- registers
-- "IPR, ISR: a bit written 0 is cleared, a bit written 1 stays as it was."
unfoldable pub kept : Half → ℕ → ℕ → ℕ
kept h s v = with_half h s (bit_and (half h s) v)

-- "IER: a write stores and clears the pending bits where it wrote 0; in-service bits stay."
abbrev pub enabled_written : Half → ℕ → Interrupts → Interrupts
enabled_written h v i = with_enabled (with_half h i.enabled v) (with_pending (kept h i.pending v) i)

abbrev pub pending_written : Half → ℕ → Interrupts → Interrupts
pending_written h v i = with_pending (kept h i.pending v) i

abbrev pub service_written : Half → ℕ → Interrupts → Interrupts
service_written h v i = with_service (kept h i.service v) i

-- "AER, DDR, IMR: a write stores."
abbrev pub mask_written : Half → ℕ → Interrupts → Interrupts
mask_written h v i = with_mask (with_half h i.mask v) i

-- "Bit 3 is S"
unfoldable pub S : ℕ → Bool
S vector = has vector 3

-- "VR: bits 7 to 3 are stored; bits 2 to 0 read 0."
abbrev pub vector_bits : ℕ → ℕ
vector_bits v = v / 8 * 8

-- "Bit 3 is S; writing S as 0 clears ISRA and ISRB."
unfoldable pub vector_written : ℕ → Interrupts → Interrupts
vector_written v i = with_vector (vector_bits v) (with_service (cond (S v) i.service 0) i)

-- "3/4 IERA/IERB, 5/6 IPRA/IPRB, 7/8 ISRA/ISRB, 9/10 IMRA/IMRB, 11 VR": "A read [..] gives the stored byte, with the bits below that read 0."
unfoldable pub interrupt_read : InterruptRegister → Interrupts → ℕ
interrupt_read (Ier h) i = half h i.enabled
interrupt_read (Ipr h) i = half h i.pending
interrupt_read (Isr h) i = half h i.service
interrupt_read (Imr h) i = half h i.mask
interrupt_read Vr i = vector_bits i.vector

unfoldable pub interrupt_written : InterruptRegister → ℕ → Interrupts → Interrupts
interrupt_written (Ier h) v i = enabled_written h v i
interrupt_written (Ipr h) v i = pending_written h v i
interrupt_written (Isr h) v i = service_written h v i
interrupt_written (Imr h) v i = mask_written h v i
interrupt_written Vr v i = vector_written v i

-- "Reset clears [..] IER, IPR, ISR, IMR, VR"; "A fresh device is all zero."
abbrev pub clear_interrupts : Interrupts
clear_interrupts = record { enabled = 0; pending = 0; service = 0; mask = 0; vector = 0 }

-- ---- channels
-- "A raise on an enabled channel sets its pending bit; on a disabled one it does nothing.", of each channel of a set
unfoldable pub raised : ℕ → Interrupts → Interrupts
raised s i = with_pending (bit_or i.pending (bit_and s i.enabled)) i

-- ---- the image rule's part
-- "unused bits of 13 [..] zero; pending only where enabled; in-service all zero where S is 0"
unfoldable pub interrupt_rule : Interrupts → Bool
interrupt_rule i = eqb (i.vector % 8) 0 && eqb (bit_and i.pending i.enabled) i.pending && (S i.vector || eqb i.service 0)
