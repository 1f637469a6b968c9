-- `text::Line::write` meets its contract: its parts one after the other. Assumes nothing.
use Rattle.text.proofs.Sizes.{index_takes, middle_length}
use Rattle.text.specs.Lines.{line_of}
use lib.ListN.{length}
use mathlib.Core.List.{append_assoc}
use mathlib.Core.Path.{◌≡◌, ap, ◌∙◌}
use native.Mathlib.Omega.{arith}
use Rattle.text.proofs.Line.write.Goals as goal

pub put_number-requires : goal.put_number-requires
put_number-requires c = omega (arith, index_takes c.into.result (omega arith), ap length c.new-line.ensures)

pub put-requires : goal.put-requires
put-requires c =
    let w = ap length c.middle.ensures ∙ middle_length c.args.self.answer c.args.self.irq c.args.self.outputs in
    omega (arith, index_takes c.into.result (omega arith), ap length c.new-line.ensures, c.put_number.ensures.len, w)

pub put_counts-requires : goal.put_counts-requires
put_counts-requires c =
    let w = ap length c.middle.ensures ∙ middle_length c.args.self.answer c.args.self.irq c.args.self.outputs in
    omega (arith, index_takes c.into.result (omega arith), ap length c.new-line.ensures, c.put_number.ensures.len, c.put.ensures.len, w)

pub returns : goal.returns
unfolding line_of
returns c =
    let l = c.args.self in
    let e = c.write.ensures in
    let text : c.put_counts.new.line.items ≡ line_of l.index l.answer l.irq l.outputs l.timeouts =
    rw (c.put_counts.ensures, c.put.ensures.items, c.put_number.ensures.items, c.new-line.ensures, c.into.ensures, c.middle.ensures) (simp append_assoc) in
    record { value = rw text at e.value; out_after = rw text at e.out_after; counts = e.counts }
