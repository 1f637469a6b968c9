-- `transcript::put_lines` meets its contract. The loop's invariant is `Going`: the lines put and those of the records left make the whole text.
use Rattle.device.specs.Whole.{fresh_device}
use Rattle.tape.specs.Tapes.{records}
use Rattle.transcript.proofs.Printing.{Going}
use Rattle.transcript.proofs.put_lines.Given as goal

abbrev pub invariant-loop-i : goal.invariant-loop-i
invariant-loop-i g l = Going fresh_device l.tape l.fn.out (records l.tape) l.out l.d l.at l.i
