-- `run::run_records` meets its contract. The loop's invariant is `Going`: what is done and what is left make the whole run. Assumes nothing.
use Rattle.std.proofs.Common.{arith, ◌<◌, ◌*◌, []}
use Rattle.answer.specs.Answers.{answer_bytes}
use Rattle.checks.proofs.Walk.{check_fine}
use Rattle.record.proofs.Taken.{taken_is_meant}
use Rattle.record.specs.Records.{raw_of}
use Rattle.run.proofs.Going.{written_over, going_on, going_ends}
use Rattle.step.specs.Events.{step_of}
use Rattle.tape.proofs.Chunks.{means_here}
use Rattle.tape.specs.Tapes.{records}
use lib.ListN.{get_or}
use mathlib.Core.Path.{refl, ap, ◌∙◌}
use Rattle.run.proofs.run_records.Goals as goal

pub loop-i-preserved : goal.loop-i-preserved
loop-i-preserved c =
    let t = c.args.tape.now in
    let l = c.loop-i in
    let at = l.i * answer_bytes in
    let h : l.i < records t = omega arith in
    let k = check_fine t l.i (records t) h l.invariant.clear in
    let m = means_here t l.i [] c.as_chunks.ensures.front h refl in
    let e = c.step-s.ensures ∙ ap (step_of l.current) (c.event_of-e.ensures ∙ taken_is_meant (raw_of (get_or c.as_chunks.result.0.now l.i [])) k.event (m ∙ k.is)) in
    let p = written_over at answer_bytes l.answers (c.copy_from_slice.ensures.after ∙ c.bytes_of.ensures) in
    rw (p, e) (going_on c.args.d t c.args.answers.now (records t) l.answers l.current l.i l.invariant h k.event k.is (omega arith))

pub returns : goal.returns
returns c =
    let l = c.loop-i in
    going_ends c.args.d c.args.tape.now c.args.answers.now (records c.args.tape.now) l.answers l.current l.i l.invariant (omega arith)
