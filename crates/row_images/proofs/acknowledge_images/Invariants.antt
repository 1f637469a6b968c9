-- `row_images::acknowledge_images` meets its contract. The loop's invariant is `Going`: what is done and what is left make the whole row. Assumes nothing.
use Rattle.row_images.proofs.Going.{Going}
use Rattle.row_images.proofs.acknowledge_images.Given as goal

abbrev pub invariant-loop-i : goal.invariant-loop-i
invariant-loop-i l = Going l.initial.bytes l.n l.bytes l.told l.iei l.i
