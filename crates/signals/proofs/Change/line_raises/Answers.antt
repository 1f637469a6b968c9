-- `Change::line_raises` meets its contract: the channels of the set of lines that raise. Assumes nothing.
use Rattle.channels.specs.Channels.{has}
use Rattle.channels.specs.Raises.{raised_by}
use Rattle.signals.proofs.Changes.{lines_agree}
use Rattle.signals.specs.Signals.{line_raises, of_inputs}
use mathlib.Core.Path.{ap, ◌∙◌}
use Rattle.signals.proofs.Change.line_raises.Goals as goal

pub returns : goal.returns
returns c =
    let a = c.args in
    c.channels_of.ensures ∙ ap raised_by (lines_agree 8 (has c.raising.result) (line_raises (of_inputs a.m.a a.m.b) a.self.before a.self.after) c.raising.ensures)
