-- Load of save and save of load, by the round trips of an image's parts. Assumes nothing.
use mathlib.Core.Path.{ap, ◌∙◌}
use Rattle.std.proofs.Common.{Ok}
use Rattle.bits.proofs.Bits.{halves}
use Rattle.interrupts.specs.Interrupts.{interrupt_rule}
use Rattle.timers.specs.Registers.{timers_rule}
use Rattle.timers.proofs.Rule.{all_settled}
use Rattle.device.specs.Whole.{image_rule}
use Rattle.layout.specs.Layout.{image_of}
use Rattle.image.specs.Image.{load_of}
use Rattle.image.proofs.Loads.{read}
use Rattle.image.proofs.Parts.{device_read, unused_written, bytes_back}
use Rattle.demands.specs.Images.{LoadOfSave, SaveOfLoad}

pub load_of_save : LoadOfSave
unfolding load_of image_of image_rule
load_of_save x r =
    let s = all_settled x.timers (halves (interrupt_rule x.interrupts) (timers_rule x.timers) r).1 in
    rw (unused_written x s, ap image_rule (device_read x s) ∙ r) (ap Ok (device_read x s))

pub save_of_load : SaveOfLoad
save_of_load b x f e =
    let r = read b x e in
    ap image_of r.is ∙ bytes_back b r.whole r.first r.second r.unused f
