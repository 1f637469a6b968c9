-- `clients::fresh_runs_nothing` meets its contract. Assumes nothing.
use Rattle.clients.proofs.Relied.{ran_nothing}
use Rattle.clients.proofs.fresh_runs_nothing.Goals as goal

pub returns : goal.returns
returns c = λ h. let a = c.args in ran_nothing a.image.now _ _ a.answers.now _ _ _ h c.mfp_fresh-fresh.ensures.0 c.mfp_fresh-fresh.ensures.1 (λ k. (c.slice_known-3-1.given k).fits) c.mfp_run-run.ensures.0 c.mfp_run-run.ensures.1 c.mfp_run-run.ensures.2
