-- The bit of a line's level. Assumes nothing.
use Prim.Native.Nat.{ℕ, ◌*◌, ◌%◌, ◌^◌, ◌<◌}
use mathlib.Core.Path.{◌≡◌}
use native.Mathlib.Nat.{one-mul, mod-eq_of_lt}
use lib.Pow.{pow-lt}

-- ---- the mask of one line
pub shifted : (i : ℕ) → i < 8 → 1 * 2 ^ i % 256 ≡ 2 ^ i
shifted i h = rw (one-mul (2 ^ i)) (mod-eq_of_lt (pow-lt h))
