-- `checks::check` meets its contract. The loop's invariant: the check of all is that of the records from i on. Assumes nothing.
use Prim.Native.Nat.{◌-◌}
use Rattle.checks.specs.Checks.{first_bad}
use Rattle.tape.specs.Tapes.{records}
use mathlib.Core.Path.{◌≡◌}
use Rattle.checks.proofs.check.Given as goal

abbrev pub invariant-loop-i : goal.invariant-loop-i
invariant-loop-i l = first_bad l.tape l.i-counter (records l.tape - l.i-counter) ≡ first_bad l.tape 0 (records l.tape)
