-- `row::acknowledge` meets its contract: one loop checks the row, one acknowledges it. Assumes nothing.
use Rattle.row.proofs.Going.{Checked, Along}
use Rattle.row.proofs.acknowledge.Given as goal

abbrev pub invariant-loop-i : goal.invariant-loop-i
invariant-loop-i l = Checked l.d-items l.i

abbrev pub invariant-loop-i-2 : goal.invariant-loop-i-2
invariant-loop-i-2 l = Along l.initial.row l.row l.iei l.given l.i
