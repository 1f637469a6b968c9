-- `transcript::print` meets its contract: a short buffer is left, a refused tape is one line, an accepted one its lines. Assumes nothing.
use Rattle.transcript.proofs.Texts.{too_short, refused, accepted, lines}
use mathlib.Core.Path.{sym, ◌∙◌}
use Rattle.transcript.proofs.print.Goals as goal

pub returns-then-out-lt-ENOUGH : goal.returns-then-out-lt-ENOUGH
returns-then-out-lt-ENOUGH g c =
    let w = too_short c.args.tape.now c.args.out.now c.if-out-lt-ENOUGH.true in
    record { value = w.0; out_after = w.1.0; counts = w.1.1 }

pub put_lines-requires-clause-fits : goal.put_lines-requires-clause-fits
put_lines-requires-clause-fits g c = (accepted c.args.tape.now c.args.out.now c.if-out-lt-ENOUGH.false (sym c.in-Ok.is ∙ c.check.ensures)).0

pub put_lines-requires-clause-checked : goal.put_lines-requires-clause-checked
put_lines-requires-clause-checked g c = (accepted c.args.tape.now c.args.out.now c.if-out-lt-ENOUGH.false (sym c.in-Ok.is ∙ c.check.ensures)).1

pub returns-in-Ok : goal.returns-in-Ok
returns-in-Ok g c =
    let e = c.put_lines.ensures in
    let w = lines c.args.tape.now c.args.out.now c.if-out-lt-ENOUGH.false (sym c.in-Ok.is ∙ c.check.ensures) _ _ e.value e.upper_bound e.out_after in
    record { value = w.0; out_after = w.1.0; counts = w.1.1 }

pub returns-in-Err : goal.returns-in-Err
returns-in-Err g c =
    let e = c.refused.ensures in
    let n = c.number_of.ensures in
    let w = refused c.args.tape.now c.args.out.now c.if-out-lt-ENOUGH.false _ (sym c.in-Err.is ∙ c.check.ensures) _ _ (rw n at e.value) (rw n at e.out_after) e.counts in
    record { value = w.0; out_after = w.1.0; counts = w.1.1 }
