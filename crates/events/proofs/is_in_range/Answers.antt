-- `events::is_in_range` meets its contract, event by event. Assumes nothing.
use Rattle.events.specs.Ranges.{in_range}
use mathlib.Core.Path.{sym, ap, ◌∙◌}
use Rattle.events.proofs.is_in_range.Goals as goal

pub returns-in-Level : goal.returns-in-Level
returns-in-Level c = c.is_line.ensures ∙ sym (ap in_range c.in-Level.is)

pub returns-in-Raise : goal.returns-in-Raise
returns-in-Raise c = c.is_serial_channel.ensures ∙ sym (ap in_range c.in-Raise.is)
