-- A bit counts at most its weight; two truths hold together exactly if each does. Assumes nothing.
use Prim.Native.Nat.{ℕ, ◌≤◌}
use mathlib.Core.Path.{◌≡◌, refl}
use mathlib.Core.Bool.{Bool, true, false, ◌&&◌, false≢true}
use native.Mathlib.Nat.{le_refl}
use native.Mathlib.Omega.{arith}
use Rattle.bits.specs.Bits.{bit_value}

bit_le : (b : Bool) (n : ℕ) → bit_value b n ≤ n
bit_le true n = le_refl n
bit_le false n = omega arith

pub bit_at_most : (b : Bool) (n : ℕ) {r : ℕ} → r ≡ bit_value b n → r ≤ n
bit_at_most b n e = rw e (bit_le b n)

pub halves : (s t : Bool) → (s && t) ≡ true → (s ≡ true) × (t ≡ true)
halves true t e = (refl, e)
halves false t e = absurd (false≢true e)

pub joined : (s t : Bool) → s ≡ true → t ≡ true → (s && t) ≡ true
joined true t e f = f
joined false t e f = e
