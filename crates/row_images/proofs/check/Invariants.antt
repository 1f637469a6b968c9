-- `row_images::check` meets its contract. The loop's invariant: the check of the images left is that of all. Assumes nothing.
use Prim.Native.Nat.{◌/◌}
use Rattle.layout.specs.Layout.{image_bytes}
use Rattle.row_images.proofs.Checks.{Checked}
use lib.ListN.{length}
use Rattle.row_images.proofs.check.Given as goal

abbrev pub invariant-loop-i : goal.invariant-loop-i
invariant-loop-i l = Checked l.fn.images (length l.fn.images / image_bytes) l.i-counter
