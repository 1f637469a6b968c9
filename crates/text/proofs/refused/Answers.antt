-- `text::refused` meets its contract: the word and two numbers. Assumes nothing.
use Rattle.text.proofs.Sizes.{index_takes}
use Rattle.text.specs.Lines.{refused_line}
use lib.ListN.{length}
use mathlib.Core.Path.{◌≡◌, refl, ap}
use native.Mathlib.Omega.{arith}
use Rattle.text.proofs.refused.Goals as goal

pub put_number-requires : goal.put_number-requires
put_number-requires c = omega (arith, index_takes c.into.result (omega arith), ap length c.new-line.ensures, c.put.ensures.len)

pub put_number-requires-2 : goal.put_number-requires-2
put_number-requires-2 c =
    omega (arith, index_takes c.into.result (omega arith), index_takes c.into-2.result (omega arith), ap length c.new-line.ensures, c.put.ensures.len, c.put_number.ensures.len)

pub returns : goal.returns
unfolding refused_line
returns c =
    let a = c.args in
    let e = c.write.ensures in
    let text : c.put_number-2.new.line.items ≡ refused_line a.number a.index =
    rw (c.put_number-2.ensures.items, c.put_number.ensures.items, c.put.ensures.items, c.new-line.ensures, c.into-2.ensures, c.into.ensures) refl in
    record { value = rw text at e.value; out_after = rw text at e.out_after; counts = e.counts }
