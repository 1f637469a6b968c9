-- What a record's bytes say of n: if it is a byte, it is the lowest of the four. Assumes nothing.
use Prim.Native.Nat.{◌≤◌}
use mathlib.Core.Path.{◌≡◌}
use native.Mathlib.Omega.{arith}
use Rattle.bits.specs.Bytes.{number}
use Rattle.record.specs.Records.{Raw, operand}

-- a number of at most a byte is its lowest byte
pub low : (r : Raw) → operand r ≤ 255 → operand r ≡ r.n0
unfolding number
low r h = omega arith
