-- For private functions alone: no rule of the paper stands here, and no public contract cites it.
use Rattle.device.specs.declared.Device.{Device}
use Rattle.device.specs.declared.Stepped.{Stepped}
use Rattle.step.specs.declared.Begun.{Begun}
use Rattle.step.specs.declared.Begun.TheVariants.{Signals, Whole}
use Rattle.device.specs.Signals.{signal_step}

-- what an event comes to that is begun up to its signals, or whole
abbrev pub finished : Begun → Device → Stepped
finished (Signals after) d = signal_step after d
finished (Whole s) d = s
