-- `run::run_records` meets its contract. The loop's invariant is `Going`: what is done and what is left make the whole run. Assumes nothing.
use Rattle.run.proofs.Going.{Going}
use Rattle.tape.specs.Tapes.{records}
use Rattle.run.proofs.run_records.Given as goal

abbrev pub invariant-loop-i : goal.invariant-loop-i
invariant-loop-i l = Going l.initial.current l.tape l.initial.answers (records l.tape) l.answers l.current l.i
