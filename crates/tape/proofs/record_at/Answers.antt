-- `tape::record_at` meets its contract: what the check finds of the record there, or its event. Assumes nothing.
use Rattle.std.proofs.Common.{rules, ◌<◌, Ok, Some}
use Rattle.events.specs.declared.Event.{Event}
use Rattle.record.proofs.Taken.{taken_is_meant}
use Rattle.record.proofs.Verdicts.{sound, wrong}
use Rattle.record.specs.Records.{raw_of, meant}
use Rattle.tape.proofs.Chunks.{means_here}
use Rattle.tape.proofs.Tapes.{there}
use Rattle.tape.specs.Tapes.{records, found_in}
use borrow.Author.Tests.{ltb-true}
use mathlib.Core.Path.{sym, ap, ◌∙◌}
use native.Mathlib.Omega.{arith}
use Rattle.tape.proofs.record_at.Goals as goal

pub returns-in_err-verdict : goal.returns-in_err-verdict
returns-in_err-verdict c =
    let a = c.args in
    let l = c.in-Some.ensures.lookup in
    let h : a.i < records a.tape.now = omega (arith, ltb-true _ _ (sym l.0)) in
    let w = wrong (meant (raw_of c.in-Some.bytes.now)) _ (sym c.verdict.ensures ∙ c.in_err-verdict.was) in
    rw (there a.tape.now a.i (omega arith) (omega arith) h, ap found_in (sym (means_here a.tape.now a.i _ c.as_chunks.ensures.front h l.1) ∙ w)) (search rules)

pub returns : goal.returns
returns c =
    let a = c.args in
    let l = c.in-Some.ensures.lookup in
    let h : a.i < records a.tape.now = omega (arith, ltb-true _ _ (sym l.0)) in
    let s = sound (meant (raw_of c.in-Some.bytes.now)) (sym c.verdict.ensures ∙ c.in_ok-verdict.was) in
    ap (λ (x : Event). Ok (Some x)) (c.event_of.ensures ∙ taken_is_meant _ s.event s.is)
    ∙ sym (there a.tape.now a.i (omega arith) (omega arith) h ∙ ap found_in (sym (means_here a.tape.now a.i _ c.as_chunks.ensures.front h l.1) ∙ s.is))
