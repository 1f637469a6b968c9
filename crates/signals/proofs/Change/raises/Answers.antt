-- `Change::raises` meets its contract: the eight lines, then both inputs. Assumes nothing.
use Rattle.channels.proofs.Raises.{raised_by_parts}
use Rattle.channels.specs.Channels.{channel_of}
use Rattle.channels.specs.Raises.{only_if, raised_by}
use Rattle.signals.proofs.Changes.{once_raised}
use Rattle.signals.specs.Signals.{line_raises, lines_below, pulse_ends, signal_raises, of_inputs}
use lib.Bits.{bit_or, or_zero_r}
use mathlib.Core.Bool.{◌&&◌}
use mathlib.Core.Path.{sym, ap₂, ◌∙◌}
use Rattle.signals.proofs.Change.raises.Goals as goal

pub returns : goal.returns
unfolding signal_raises pulse_ends channel_of raised_by
returns c =
    let a = c.args in
    let pulses = of_inputs a.m.a a.m.b in
    let by-tai = c.only_if-by_tai.ensures ∙ ap₂ only_if ((λ k. a.m.a && c.input_ceases.ensures k) ∙ sym (once_raised _)) c.channel_of.ensures in
    let by-tbi = c.only_if-by_tbi.ensures ∙ ap₂ only_if ((λ k. a.m.b && c.input_ceases-2.ensures k) ∙ sym (once_raised _)) c.channel_of-2.ensures in
    ap₂ bit_or c.line_raises.ensures (ap₂ bit_or by-tai (by-tbi ∙ sym (or_zero_r _))) ∙ sym (raised_by_parts (lines_below 8 (line_raises pulses a.self.before a.self.after)) _)
