-- `irq` meets its contract: the comparison holds exactly where some channel requests. Assumes nothing.
use Rattle.requests.proofs.Asserted.{asserted}
use lib.Bits.{bit_and, bit_xor, and_le_l}
use mathlib.Core.Path.{refl, sym}
use native.Mathlib.Nat.{lt_of_le_of_lt}
use native.Mathlib.Omega.{arith}
use Rattle.requests.proofs.irq.Goals as goal

pub returns : goal.returns
returns c =
    let i = c.args.i in
    let w = bit_and i.pending i.mask in
    sym (asserted i w refl (lt_of_le_of_lt (and_le_l w (bit_xor w i.service)) (lt_of_le_of_lt (and_le_l i.pending i.mask) (omega arith))))
