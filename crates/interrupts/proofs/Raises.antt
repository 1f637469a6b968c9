-- Raises one after another are the raises of all together, and a raise only adds. Assumes nothing.
use Prim.Native.Nat.{ℕ}
use mathlib.Core.Path.{◌≡◌, ap, ◌∙◌}
use mathlib.Core.Bool.{Bool, ◌&&◌, ◌||◌}
use lib.Bits.{bit_and, bit_or, or_zero_r, and_zero_l}
use Rattle.channels.specs.Channels.{has}
use Rattle.channels.proofs.Sets.{has_and, has_or, or_and_or}
use Rattle.interrupts.specs.Interrupts.{raised}
use Rattle.interrupts.specs.declared.Interrupts.{Interrupts}

pub raise_raise : (s t : ℕ) (i : Interrupts) → raised t (raised s i) ≡ raised (bit_or s t) i
unfolding raised
raise_raise s t i = λ k. record { enabled = i.enabled; pending = or_and_or i.pending i.enabled s t k; service = i.service; mask = i.mask; vector = i.vector }

pub raise_none : (i : Interrupts) → raised 0 i ≡ i
unfolding raised
raise_none i = λ k. record { enabled = i.enabled; pending = none_more k; service = i.service; mask = i.mask; vector = i.vector }
  where
    none_more : bit_or i.pending (bit_and 0 i.enabled) ≡ i.pending
    none_more = ap (bit_or i.pending) (and_zero_l i.enabled) ∙ or_zero_r i.pending

-- ---- a raise only adds
pub raise_only_adds : (s : ℕ) (i : Interrupts) (k : ℕ) → has (raised s i).pending k ≡ (has i.pending k || has s k && has i.enabled k)
unfolding raised
raise_only_adds s i k = has_or _ _ k ∙ ap (λ (b : Bool). has i.pending k || b) (has_and s i.enabled k)
