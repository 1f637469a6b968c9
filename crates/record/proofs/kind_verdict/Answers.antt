-- `record::kind_verdict` meets its contract: a write's select is refused as a read's. Assumes nothing.
use Rattle.std.proofs.Common.{ℕ, ◌&&◌}
use Rattle.record.proofs.Verdicts.{written}
use Rattle.record.specs.Records.{event_of, raw_of, operand}
use Rattle.record.specs.Verdicts.{verdict_of}
use Rattle.selects.specs.Selects.{write_select}
use lib.Dec.{leb}
use mathlib.Core.Path.{ap}
use Rattle.record.proofs.kind_verdict.Goals as goal

pub returns-in-2 : goal.returns-in-2
unfolding event_of
returns-in-2 c =
    let r = raw_of c.args.bytes.now in
    let e = ap (λ (k : ℕ). verdict_of (event_of k r.a (operand r))) c.in-2.is in
    let w = written (leb r.a 23 && leb (operand r) 255) (write_select r.a) (operand r) in
    cc
