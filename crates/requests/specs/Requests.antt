-- Document 01, "Channels": which channel requests, IRQ, and the acknowledge, in the paper's words.
use Rattle.std.specs.Prelude.{Option, Some, None, ℕ, zero, suc, ◌+◌, ◌-◌, ◌*◌, ◌/◌, ◌^◌, Bool, true, false, cond, ◌&&◌, ◌||◌, ltb}
use Rattle.std.specs.Int.Bits.{bit_and, bit_or}
use Rattle.channels.specs.Channels.{has, set_of, channel}
use Rattle.channels.specs.declared.Channel.{Channel}
use Rattle.interrupts.specs.declared.Interrupts.{Interrupts}
use Rattle.interrupts.specs.Interrupts.{S, with_pending, with_service}
use Rattle.requests.specs.declared.Reply.TheVariants.{Vector, PassedOn, Held}
use Rattle.requests.specs.declared.Acknowledged.{Acknowledged}

-- "A channel requests if it is pending, its mask bit is 1 and no channel equal to or above it is in service." (A set has no channel equal to or above c if, as a number, it is below 2 ^ c.)
unfoldable pub requests : Interrupts → ℕ → Bool
requests i c = has i.pending c && has i.mask c && ltb i.service (2 ^ c)

-- "IRQ is asserted exactly if some channel requests.": some channel below n, and of all sixteen
unfoldable pub some_requests : ℕ → Interrupts → Bool
some_requests zero i = false
some_requests (suc c) i = requests i c || some_requests c i

unfoldable pub irq : Interrupts → Bool
irq i = some_requests 16 i

-- "the highest requesting channel", of those below n, and of all sixteen
unfoldable pub highest_below : ℕ → Interrupts → Option Channel
highest_below zero i = None
highest_below (suc c) i = cond (requests i c) (Some (channel c)) (highest_below c i)

unfoldable pub highest : Interrupts → Option Channel
highest i = highest_below 16 i

-- "the highest requesting channel c gives the vector (VR bits 7 to 4) × 16 + c, its pending bit is cleared, and its in-service bit is set if S is 1."
unfoldable pub given : Channel → Interrupts → Interrupts
given c i =
    with_pending (bit_and i.pending (65535 - set_of c))
    (with_service (cond (S i.vector) (bit_or i.service (set_of c)) i.service) i)

unfoldable pub vector_of : Channel → Interrupts → ℕ
vector_of c i = i.vector / 16 * 16 + c.0

-- "With IEI asserted and no request it is "passed on" (IEO asserted). In both, where the acknowledge yields no vector, nothing changes. Otherwise [..]"
abbrev pub acknowledged_by : Option Channel → Interrupts → Acknowledged
acknowledged_by (Some c) i = record { interrupts = given c i; reply = Vector (vector_of c i) }
acknowledged_by None i = record { interrupts = i; reply = PassedOn }

-- "Acknowledge: with IEI not asserted the answer is "held"."
unfoldable pub acknowledged : Bool → Interrupts → Acknowledged
acknowledged false i = record { interrupts = i; reply = Held }
acknowledged true i = acknowledged_by (highest i) i
