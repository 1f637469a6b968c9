-- `run::run` meets its contract: refused, nothing is altered; done, the run's image and answers. Assumes nothing.
use Rattle.std.proofs.Common.{rules, arith, ◌≡◌, Ok, Err, length}
use Rattle.checks.proofs.Checks.{let_through}
use Rattle.checks.specs.Checks.{bad_at}
use Rattle.image.specs.Image.{stored_over}
use Rattle.run.proofs.Results.{by_image, by_tape, all_kept, all_written}
use mathlib.Core.Path.{sym, ap, ◌∙◌}
use Rattle.run.proofs.run.Goals as goal

pub returns-in_err-d : goal.returns-in_err-d
returns-in_err-d c =
    let a = c.args in
    let x = c.in_err-d.field-0.0 in
    let l : c.load.result ≡ Err x = search rules in
    let k : c.from_residual.result ≡ bad_at x 0 = search rules in
    all_kept a.image.now a.tape.now a.answers.now _ k (by_image a.image.now a.tape.now a.answers.now _ (sym c.load.ensures ∙ l))

pub returns-in_err-check : goal.returns-in_err-check
returns-in_err-check c =
    let a = c.args in
    let l : c.load.result ≡ Ok c.in_ok-d.d = search rules in
    let k : c.from_residual-in_err-check.result ≡ Err c.in_err-check.field-0.0 = search rules in
    all_kept a.image.now a.tape.now a.answers.now _ k (by_tape a.image.now a.tape.now a.answers.now _ (sym c.load.ensures ∙ l) ∙ sym c.check.ensures ∙ c.in_err-check.was)

pub run_records-after-requires-clause-answers_within : goal.run_records-after-requires-clause-answers_within
run_records-after-requires-clause-answers_within c = let r = (let_through c.args.tape.now (length c.args.answers.now) (sym c.check.ensures ∙ c.in_ok-check.was)).roomy in omega arith

pub run_records-after-requires-clause-checked : goal.run_records-after-requires-clause-checked
run_records-after-requires-clause-checked c = (let_through c.args.tape.now (length c.args.answers.now) (sym c.check.ensures ∙ c.in_ok-check.was)).fine

pub returns : goal.returns
returns c =
    let a = c.args in
    let r = c.run_records-after.ensures in
    let l : c.load.result ≡ Ok c.in_ok-d.d = search rules in
    all_written a.image.now a.tape.now a.answers.now _ _ _ (sym c.load.ensures ∙ l) (sym c.check.ensures ∙ c.in_ok-check.was) (c.store.ensures ∙ ap (λ d. stored_over d a.image.now) r.0) r.1
