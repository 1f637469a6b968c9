-- `Timeouts::channels` meets its contract. Assumes nothing.
use Rattle.channels.specs.Raises.{raised_by}
use lib.Bits.{bit_or, or_zero_r}
use mathlib.Core.Path.{sym, ap₂, ◌∙◌}
use Rattle.timeouts.proofs.Timeouts.channels.Goals as goal

pub returns : goal.returns
unfolding raised_by
returns c = ap₂ bit_or c.only_if-of_a.ensures (ap₂ bit_or c.only_if-of_b.ensures (ap₂ bit_or c.only_if-of_c.ensures (c.only_if-of_d.ensures ∙ sym (or_zero_r _))))
