-- `step::begin` meets its contract, event by event. Assumes nothing.
use Prim.Native.Nat.{ℕ}
use Rattle.channels.specs.Raises.{raised_by}
use Rattle.device.proofs.Levels.{level_done}
use Rattle.device.specs.Signals.{done, signal_step}
use Rattle.device.specs.Whole.{with_interrupts}
use Rattle.device.specs.declared.Device.{Device}
use Rattle.device.specs.declared.Stepped.{Stepped}
use Rattle.events.specs.declared.Answer.TheVariants.{Data}
use Rattle.events.specs.declared.Event.{Event}
use Rattle.interrupts.specs.Interrupts.{raised}
use Rattle.step.specs.Events.{step_of, effect_of}
use Rattle.step.specs.Private.{finished}
use Rattle.step.specs.declared.Begun.{Begun}
use lib.Bits.{or_zero_r}
use mathlib.Core.Path.{◌≡◌, sym, ap, ◌∙◌}
use Rattle.step.proofs.begin.Goals as goal

-- the step of the event that e turned out to be
did : (d : Device) (e f : Event) → e ≡ f → {s : Stepped} → s ≡ step_of d f → s ≡ step_of d e
did d e f p q = q ∙ ap (step_of d) (sym p)

pub returns-in-Reset : goal.returns-in-Reset
unfolding effect_of
returns-in-Reset c = did c.args.d c.args.e _ c.in-Reset.is (ap (λ (b : Begun). finished b c.args.d) c.done_with.ensures ∙ ap done c.reset.ensures)

pub returns-in-Read : goal.returns-in-Read
unfolding effect_of
returns-in-Read c = did c.args.d c.args.e _ c.in-Read.is (ap (λ (b : Begun). finished b c.args.d) c.whole.ensures ∙ (λ k. record { device = c.args.d; answer = Data (c.read.ensures k); timeouts = c.zero.ensures k }))

pub returns-in-Write : goal.returns-in-Write
unfolding effect_of
returns-in-Write c = did c.args.d c.args.e _ c.in-Write.is c.begin_write.ensures

pub returns-in-Level : goal.returns-in-Level
unfolding effect_of
returns-in-Level c =
    let a = c.args in
    did a.d a.e _ c.in-Level.is (ap (λ (b : Begun). finished b a.d) c.done_with-in-Level.ensures ∙ level_done _ _ a.d c.level.ensures)

pub returns-in-Input : goal.returns-in-Input
unfolding effect_of
returns-in-Input c = did c.args.d c.args.e _ c.in-Input.is (ap (λ l. signal_step l c.args.d) c.with_input.ensures)

pub returns-in-Clocks : goal.returns-in-Clocks
returns-in-Clocks c = did c.args.d c.args.e _ c.in-Clocks.is c.begin_clocks.ensures

pub returns-in-Acknowledge : goal.returns-in-Acknowledge
returns-in-Acknowledge c = did c.args.d c.args.e _ c.in-Acknowledge.is c.begin_acknowledge.ensures

pub returns-in-Raise : goal.returns-in-Raise
unfolding effect_of raised_by
returns-in-Raise c = did c.args.d c.args.e _ c.in-Raise.is (ap (λ (b : Begun). finished b c.args.d) c.done_with-in-Raise.ensures ∙ ap (λ i. done (with_interrupts i c.args.d)) (c.raise.ensures ∙ ap (λ (s : ℕ). raised s c.args.d.interrupts) (c.set_of.ensures ∙ sym (or_zero_r _))))
