-- `Device::level` meets its contract. Assumes nothing.
use Prim.Native.Nat.{ℕ}
use Rattle.channels.specs.Raises.{raised_by}
use Rattle.device.proofs.Levels.{level_timers, level_raises}
use Rattle.device.specs.Signals.{measuring, signalled}
use Rattle.interrupts.specs.Interrupts.{raised}
use Rattle.lines.specs.declared.Lines.{Lines}
use Rattle.signals.specs.Signals.{line_raises, lines_below, of_inputs}
use mathlib.Core.Bool.{Bool}
use mathlib.Core.Path.{sym, ap, ap₂, ◌∙◌}
use Rattle.device.proofs.Device.level.Goals as goal

pub returns : goal.returns
unfolding signalled
returns c =
    let a = c.args in
    let d = a.self in
    let becomes = c.with_level-after.ensures in
    let modes = ap₂ (λ (x y : Bool). raised_by (lines_below 8 (line_raises (of_inputs x y) d.lines c.with_level-after.result))) c.measuring.ensures.0 c.measuring.ensures.1 in
    let raises = c.line_raises.ensures ∙ modes ∙ ap (λ (l : Lines). raised_by (lines_below 8 (line_raises (measuring d.timers) d.lines l))) becomes ∙ sym (level_raises a.i a.high d) in
    let interrupts = c.raise.ensures ∙ ap (λ (s : ℕ). raised s d.interrupts) raises in
    λ k. record { lines = becomes k; interrupts = interrupts k; timers = sym (level_timers a.i a.high d) k }
