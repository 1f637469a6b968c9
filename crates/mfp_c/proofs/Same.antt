-- Each export promises what the function of mfp promises, no less and no more: a clause altered here breaks its line. So mfp's lines in clients/proofs/Unique.antt are of the exports too.
-- Assumes nothing.
use mathlib.Core.Path.{◌≡◌, refl}
use Rattle.mfp.proofs.mfp_run.Reads as mfp-run
use Rattle.mfp.proofs.mfp_fresh.Reads as mfp-fresh
use Rattle.mfp.proofs.mfp_row_acknowledge.Reads as mfp-row-acknowledge
use Rattle.mfp_c.proofs.mfp_run.Reads as exported-mfp-run
use Rattle.mfp_c.proofs.mfp_fresh.Reads as exported-mfp-fresh
use Rattle.mfp_c.proofs.mfp_row_acknowledge.Reads as exported-mfp-row-acknowledge

mfp_run_same : exported-mfp-run.Learnt ≡ mfp-run.Learnt
mfp_run_same = refl

mfp_fresh_same : exported-mfp-fresh.Learnt ≡ mfp-fresh.Learnt
mfp_fresh_same = refl

mfp_row_acknowledge_same : exported-mfp-row-acknowledge.Learnt ≡ mfp-row-acknowledge.Learnt
mfp_row_acknowledge_same = refl
