-- `step::begin_clocks` meets its contract, by the law of n clocks of each timer. Assumes nothing.
use Rattle.channels.specs.Raises.{raised_by}
use Rattle.device.specs.declared.Device.{Device}
use Rattle.events.specs.declared.Answer.TheVariants.{Done}
use Rattle.interrupts.specs.Interrupts.{raised}
use Rattle.step.proofs.Clocks.{span_timers, span_timeouts, timeouts_each, clocks_each}
use Rattle.step.specs.Events.{effect_of}
use Rattle.step.specs.Private.{finished}
use Rattle.step.specs.declared.Begun.{Begun}
use Rattle.timeouts.specs.Clocks.{timeout_raises, clocked_by}
use Rattle.timeouts.specs.declared.Advanced.{Advanced}
use Rattle.timeouts.specs.declared.Timeouts.{Timeouts}
use mathlib.Core.Bool.{Bool}
use mathlib.Core.Path.{◌≡◌, sym, ap, ap₂, ◌∙◌}
use Rattle.step.proofs.begin_clocks.Goals as goal

pub returns : goal.returns
unfolding effect_of
returns c =
    let a = c.args in
    let d = a.d in
    let moved : c.clocks.result ≡ record { timers = span_timers a.n d; timeouts = span_timeouts a.n d } = c.clocks.ensures ∙ ap₂ (λ (x y : Bool). clocked_by x y a.n d.timers) c.input_is_active.ensures c.input_is_active-2.ensures in
    let counts = ap (λ (m : Advanced). m.timeouts) moved ∙ sym (timeouts_each a.n d) in
    let raises = c.raise.ensures ∙ ap (λ s. raised s d.interrupts) (c.channels.ensures ∙ ap (λ (m : Timeouts). raised_by (timeout_raises m)) counts) in
    let after : ◌≡◌ {A = Device} _ _ = (λ k. record { lines = d.lines; interrupts = raises k; timers = (moved k).timers }) ∙ sym (clocks_each a.n d) in
    ap (λ (b : Begun). finished b d) c.whole.ensures ∙ (λ k. record { device = after k; answer = Done; timeouts = counts k })
