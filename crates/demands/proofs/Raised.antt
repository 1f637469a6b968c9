-- What an event raises, it raises as one set; one with a rule of its own raises nothing. Assumes nothing.
use Rattle.channels.specs.declared.Channel.{Channel}
use Rattle.std.proofs.Common.{Option, Some, None}
use Prim.Native.Nat.{ℕ, ◌-◌}
use mathlib.Core.Path.{◌≡◌, refl, sym, ap, ◌∙◌}
use mathlib.Core.Bool.{Bool, true, false, ◌&&◌, false≢true}
use mathlib.Core.List.{[]}
use Rattle.interrupts.specs.declared.Interrupts.{Interrupts}
use lib.Bits.{bit_and, and_self}
use Rattle.channels.specs.Channels.{has, set_of}
use Rattle.channels.specs.Raises.{raised_by}
use Rattle.channels.proofs.Sets.{has_and, has_none}
use Rattle.interrupts.specs.declared.InterruptRegister.TheVariants.{Ier, Ipr, Isr, Imr, Vr}
use Rattle.interrupts.specs.Interrupts.{raised, vector_written, interrupt_written}
use Rattle.interrupts.proofs.Rule.{part_within, kept_within}
use Rattle.requests.specs.Requests.{highest, given, acknowledged_by, acknowledged}
use Rattle.interrupts.proofs.Raises.{raise_none}
use Rattle.lines.specs.declared.LineRegister.TheVariants.{Gpdr, Aer, Ddr}
use Rattle.events.specs.declared.Register.TheVariants.{OfLines, OfInterrupts, OfTimers}
use Rattle.events.specs.declared.Event.TheVariants.{Reset, Read, Write, Level, Input, Clocks, Acknowledge, Raise}
use Rattle.device.specs.declared.Device.{Device}
use Rattle.device.specs.Whole.{reset_device}
use Rattle.device.specs.Signals.{signalled}
use Rattle.step.specs.Events.{write_step}
use Rattle.step.specs.Events.{effect_of}
use Rattle.step.proofs.Clocks.{clocks_each}
use Rattle.demands.specs.Raised.{RaisedAtOnce, OthersRaiseNothing}

-- no raise leaves the interrupts
left : (i : Interrupts) → i ≡ raised (raised_by []) i
unfolding raised_by
left i = sym (raise_none i)

pub raised_at_once : RaisedAtOnce
unfolding effect_of write_step signalled
raised_at_once d Reset h = absurd h
raised_at_once d (Read r) h = left d.interrupts
raised_at_once d (Write (OfLines Gpdr) v) h = left d.interrupts
raised_at_once d (Write (OfLines Aer) v) h = refl
raised_at_once d (Write (OfLines Ddr) v) h = left d.interrupts
raised_at_once d (Write (OfInterrupts r) v) h = absurd h
raised_at_once d (Write (OfTimers r) v) h = left d.interrupts
raised_at_once d (Level i high) h = refl
raised_at_once d (Input i high) h = refl
raised_at_once d (Clocks n) h = ap (λ (x : Device). x.interrupts) (clocks_each n d)
raised_at_once d (Acknowledge iei) h = absurd h
raised_at_once d (Raise c) h = refl

-- ---- an event with a rule of its own
-- a set within another has no more channels
within : (p q k : ℕ) → bit_and p q ≡ p → has p k ≡ true → has q k ≡ true
within p q k h e = go (has p k) (has q k) refl refl
  where
    both : (has p k && has q k) ≡ true
    both = sym (has_and p q k) ∙ ap (λ (s : ℕ). has s k) h ∙ e

    go : (a b : Bool) → has p k ≡ a → has q k ≡ b → has q k ≡ true
    go true true u v = v
    go true false u v = let z : (true && false) ≡ true = sym (rw (u, v) refl) ∙ both in absurd (false≢true z)
    go false b u v = absurd (false≢true (sym u ∙ e))

pub others_raise_nothing : OthersRaiseNothing
unfolding effect_of write_step interrupt_written vector_written reset_device given acknowledged
others_raise_nothing d Reset h k e = absurd (false≢true (sym (has_none k) ∙ e))
others_raise_nothing d (Read r) h k e = absurd (h tt)
others_raise_nothing d (Write (OfLines r) v) h k e = absurd (h tt)
others_raise_nothing d (Write (OfInterrupts (Ier x)) v) h k e = within _ _ k (kept_within d.interrupts.pending d.interrupts.pending (and_self _) x v) e
others_raise_nothing d (Write (OfInterrupts (Ipr x)) v) h k e = within _ _ k (kept_within d.interrupts.pending d.interrupts.pending (and_self _) x v) e
others_raise_nothing d (Write (OfInterrupts (Isr x)) v) h k e = e
others_raise_nothing d (Write (OfInterrupts (Imr x)) v) h k e = e
others_raise_nothing d (Write (OfInterrupts Vr) v) h k e = e
others_raise_nothing d (Write (OfTimers r) v) h k e = absurd (h tt)
others_raise_nothing d (Level i high) h k e = absurd (h tt)
others_raise_nothing d (Input i high) h k e = absurd (h tt)
others_raise_nothing d (Clocks n) h k e = absurd (h tt)
others_raise_nothing d (Acknowledge iei) h k e = by_reply iei e
  where
    taken : (q : Option Channel) → has (acknowledged_by q d.interrupts).interrupts.pending k ≡ true → has d.interrupts.pending k ≡ true
    taken (Some c) p = within (bit_and d.interrupts.pending (65535 - set_of c)) d.interrupts.pending k (part_within d.interrupts.pending d.interrupts.pending (65535 - set_of c) (and_self d.interrupts.pending)) p
    taken None p = p

    by_reply : (b : Bool) → has (acknowledged b d.interrupts).interrupts.pending k ≡ true → has d.interrupts.pending k ≡ true
    by_reply true p = taken (highest d.interrupts) p
    by_reply false p = p
others_raise_nothing d (Raise c) h k e = absurd (h tt)
