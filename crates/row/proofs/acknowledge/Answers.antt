-- `row::acknowledge` meets its contract: one loop checks the row, one acknowledges it. Assumes nothing.
use Rattle.std.proofs.Common.{◌≤◌, sym, length, arith, ◌∙◌}
use Rattle.row.proofs.Going.{checked_more, broken, checked_all, along_more, given_still, along_all, unfit, ruled_out, done}
use Rattle.row.proofs.acknowledge.Goals as goal
use Rattle.row.proofs.acknowledge.Goals.{in-Vector, in_default}

pub loop-i-preserved : goal.loop-i-preserved
loop-i-preserved c = checked_more c.args.row.now c.loop-i.i c.loop-i.invariant _ c.loop-i-test.true (sym c.if-not-keeps_rule.ensures)

pub loop-i-2-preserved : goal.loop-i-2-preserved
loop-i-2-preserved c =
    let r = c.loop-i-2 in
    let k = c.acknowledge-k in
    let l = c.loop-i-2-test.true in
    elim c.match-k.branch [
      | in-Vector w ↦ rw (c.ieo-iei.ensures) (along_more _ r.row r.iei r.given r.i r.invariant _ _ _ (omega arith) k.ensures (rw w.in-Vector.is (w.given-is ∙ w.or-given.ensures)))
      | in_default w ↦ rw (c.ieo-iei.ensures) (along_more _ r.row r.iei r.given r.i r.invariant _ _ _ (omega arith) k.ensures (w.given-is ∙ given_still _ _ _ w.in_default.not-Vector))
    ]

pub returns : goal.returns
returns c =
    let r = c.loop-i-2 in
    let l : length r.row ≤ r.i = omega arith in
    let a = along_all _ r.row r.iei r.given r.i r.invariant l in
    let k = checked_all c.args.row.now c.loop-i.i c.loop-i.invariant c.loop-i-test.false in
    let d = done c.args.row.now (sym c.if-not-fits.ensures) k in
    rw (a.0, a.1) d

pub returns-then-not-fits : goal.returns-then-not-fits
returns-then-not-fits c = rw c.into.ensures (unfit c.args.row.now (sym c.if-not-fits.ensures))

pub returns-then-not-keeps_rule : goal.returns-then-not-keeps_rule
returns-then-not-keeps_rule c =
    let b = broken c.args.row.now c.loop-i.i c.loop-i.invariant _ c.loop-i-test.true (sym c.if-not-keeps_rule.ensures) in
    rw b.1 at (ruled_out c.args.row.now (sym c.if-not-fits.ensures) b.0)
