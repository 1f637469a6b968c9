-- `text::write` meets its contract: a short buffer is left, a longer one begins with the line. Assumes nothing.
use Rattle.text.proofs.Whole.{left, none, length_long, written_long}
use mathlib.Core.Path.{sym, ◌∙◌}
use Rattle.text.proofs.write.Goals as goal

pub returns-then-out-lt-LINE_MOST-clause-value : goal.returns-then-out-lt-LINE_MOST-clause-value
returns-then-out-lt-LINE_MOST-clause-value c = none _ _ c.if-out-lt-LINE_MOST.true

pub returns-then-out-lt-LINE_MOST-clause-out_after : goal.returns-then-out-lt-LINE_MOST-clause-out_after
returns-then-out-lt-LINE_MOST-clause-out_after c = left _ _ c.if-out-lt-LINE_MOST.true

pub returns-clause-value : goal.returns-clause-value
returns-clause-value c = c.len-n.ensures.value ∙ sym (length_long _ _ c.if-out-lt-LINE_MOST.false)

pub returns-clause-out_after : goal.returns-clause-out_after
returns-clause-out_after c =
    rw (c.copy_from_slice.ensures.after, c.deref.ensures.0, c.len-n.ensures.value) (sym (written_long c.args.line.now.items c.args.out.now c.if-out-lt-LINE_MOST.false))
