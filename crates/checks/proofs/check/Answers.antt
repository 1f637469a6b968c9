-- `checks::check` meets its contract: a record is refused with its index, or passed over. Assumes nothing.
use Rattle.std.proofs.Common.{rules, arith, ◌≡◌, ◌<◌, [], Result, Ok, Err}
use Rattle.events.specs.declared.Refusal.{Refusal}
use Rattle.record.proofs.Verdicts.{sound, wrong}
use Rattle.tape.proofs.Chunks.{means_here}
use Rattle.tape.specs.Tapes.{records}
use Rattle.checks.proofs.Checks.{bad}
use Rattle.checks.proofs.Walk.{check_bad, check_valid}
use Rattle.checks.specs.Checks.{bad_at, checked}
use mathlib.Core.Path.{refl, sym, ◌∙◌}
use Rattle.checks.proofs.check.Goals as goal

pub returns-in_err-map_err : goal.returns-in_err-map_err
returns-in_err-map_err c = go c.verdict.result refl
  where
    go : (v : Result (Unit {0}) Refusal) → c.verdict.result ≡ v → c.from_residual.result ≡ checked c.args.tape.now c.args.room
    go (Ok u) e = absurd (search rules)
    go (Err x) e =
        let t = c.args.tape.now in
        let i = c.loop-i.i-counter in
        let h : i < records t = omega arith in
        let k : c.from_residual.result ≡ bad_at x i = search rules in
        let m = means_here t i [] c.as_chunks.ensures.front h refl in
        let w = wrong _ x (sym c.verdict.ensures ∙ e) in
        k ∙ sym (bad t c.args.room (omega arith) (omega arith) x i (sym c.loop-i.invariant ∙ check_bad t i (records t) h x (sym m ∙ w)))

pub loop-i-preserved : goal.loop-i-preserved
loop-i-preserved c =
    let t = c.args.tape.now in
    let i = c.loop-i.i-counter in
    let h : i < records t = omega arith in
    let k : c.verdict.result ≡ Ok tt = search rules in
    let m = means_here t i [] c.as_chunks.ensures.front h refl in
    let s = sound _ (sym c.verdict.ensures ∙ k) in
    sym (check_valid t i (records t) h s.event (sym m ∙ s.is)) ∙ c.loop-i.invariant
