-- Requests: the walk from channel 15 down, and IRQ as "some channel requests". Assumes nothing.
use Rattle.std.proofs.Common.{Option, Some, None}
use Prim.Native.Nat.{ℕ, zero, suc, ◌-◌, ◌^◌, ◌≤◌, ◌<◌}
use mathlib.Core.Path.{◌≡◌, refl, sym, ap, ap₂, ◌∙◌}
use mathlib.Core.Bool.{Bool, true, false, cond, ◌&&◌, ◌||◌}
use native.Mathlib.Omega.{arith}
use lib.Bits.{bit_and}
use lib.Dec.{ltb}
use Rattle.channels.specs.Channels.{has, channel}
use Rattle.requests.specs.Requests.{requests, some_requests, irq, highest_below, highest, given, vector_of, acknowledged_by, acknowledged}
use Rattle.channels.specs.declared.Channel.{Channel}
use Rattle.interrupts.specs.declared.Interrupts.{Interrupts}
use Rattle.requests.specs.declared.Reply.TheVariants.{Vector, PassedOn, Held}
use Rattle.channels.proofs.Sets.{has_and, has_none}

-- a channel that requests is both pending and unmasked
none_requests : (i : Interrupts) (c : ℕ) → bit_and i.pending i.mask ≡ 0 → requests i c ≡ false
unfolding requests
none_requests i c h = ap (λ (b : Bool). b && ltb i.service (2 ^ c)) (sym (has_and i.pending i.mask c) ∙ ap (λ (s : ℕ). has s c) h ∙ has_none c)

pub nobody : (i : Interrupts) (n : ℕ) → bit_and i.pending i.mask ≡ 0 → highest_below n i ≡ None
unfolding highest_below
nobody i zero h = refl
nobody i (suc c) h = rw (none_requests i c h) (nobody i c h)

-- whether a channel requests, of the two sets that the walk is handed
pub asks_request : (i : Interrupts) (wanted service c : ℕ) → bit_and i.pending i.mask ≡ wanted → i.service ≡ service → (has wanted c && ltb service (2 ^ c)) ≡ requests i c
unfolding requests
asks_request i wanted service c e f = ap₂ (λ (w s : ℕ). has w c && ltb s (2 ^ c)) (sym e) (sym f) ∙ ap (λ (b : Bool). b && ltb i.service (2 ^ c)) (has_and i.pending i.mask c)

-- ---- one step of the walk
pub walk_found : (i : Interrupts) (n : ℕ) → 1 ≤ n → requests i (n - 1) ≡ true → highest_below n i ≡ Some (channel (n - 1))
unfolding highest_below
walk_found i zero h e = absurd (omega arith)
walk_found i (suc c) h e = let p : suc c - 1 ≡ c = omega arith in rw p (rw (rw p at e) refl)

pub walk_on : (i : Interrupts) (n : ℕ) → 1 ≤ n → requests i (n - 1) ≡ false → highest_below n i ≡ highest_below (n - 1) i
unfolding highest_below
walk_on i zero h e = absurd (omega arith)
walk_on i (suc c) h e = let p : suc c - 1 ≡ c = omega arith in rw p (rw (rw p at e) refl)

-- ---- IRQ is asserted exactly where the walk finds a channel
abbrev pub found : Option Channel → Bool
found (Some c) = true
found None = false

found_some : (i : Interrupts) (n : ℕ) → found (highest_below n i) ≡ some_requests n i
unfolding highest_below some_requests
found_some i zero = refl
found_some i (suc c) = go (requests i c) (found_some i c)
  where
    go : (b : Bool) → found (highest_below c i) ≡ some_requests c i → found (cond b (Some (channel c)) (highest_below c i)) ≡ (b || some_requests c i)
    go true e = refl
    go false e = e

pub irq_found : (i : Interrupts) → found (highest i) ≡ irq i
unfolding irq highest
irq_found i = found_some i 16

-- ---- the channel found is one of those walked over
highest_is_below : (i : Interrupts) (n : ℕ) (c : Channel) → highest_below n i ≡ Some c → c.0 < n
unfolding highest_below
highest_is_below i zero c e = let z : ◌≡◌ {A = ℕ} 0 1 = cc in absurd (omega arith)
highest_is_below i (suc k) c e = go (requests i k) refl (highest_is_below i k c)
  where
    go : (b : Bool) → requests i k ≡ b → (highest_below k i ≡ Some c → c.0 < k) → c.0 < suc k
    go true h ih = let f : cond (requests i k) (Some (channel k)) (highest_below k i) ≡ Some c = e in let g : Some (channel k) ≡ Some c = rw h at f in let m : k ≡ c.0 = cc in omega arith
    go false h ih = let f : cond (requests i k) (Some (channel k)) (highest_below k i) ≡ Some c = e in let g : c.0 < k = ih (rw h at f) in omega arith

pub requesting_below : (i : Interrupts) (c : Channel) → highest i ≡ Some c → c.0 < 16
unfolding highest
requesting_below i c e = highest_is_below i 16 c e

-- ---- the three answers of an acknowledge
pub held : (iei : Bool) (i : Interrupts) → iei ≡ false → acknowledged iei i ≡ record { interrupts = i; reply = Held }
unfolding acknowledged
held iei i e = ap (λ (b : Bool). acknowledged b i) e

pub nobody_passes_on : (iei : Bool) (i : Interrupts) → iei ≡ true → highest i ≡ None → acknowledged iei i ≡ record { interrupts = i; reply = PassedOn }
unfolding acknowledged
nobody_passes_on iei i e n = ap (λ (b : Bool). acknowledged b i) e ∙ ap (λ (r : Option Channel). acknowledged_by r i) n

pub vectored : (iei : Bool) (i : Interrupts) (c : Channel) → iei ≡ true → highest i ≡ Some c → acknowledged iei i ≡ record { interrupts = given c i; reply = Vector (vector_of c i) }
unfolding acknowledged
vectored iei i c e n = ap (λ (b : Bool). acknowledged b i) e ∙ ap (λ (r : Option Channel). acknowledged_by r i) n
