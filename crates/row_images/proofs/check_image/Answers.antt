-- `row_images::check_image` meets its contract: the run of no record, on a copy of the image. Assumes nothing.
use Rattle.std.proofs.Common.{[], ◌∙◌}
use Rattle.row_images.proofs.Records.{of_none}
use Rattle.row_images.proofs.check_image.Goals as goal

pub returns : goal.returns
returns c = c.run.ensures.0 ∙ of_none c.args.image.now []
