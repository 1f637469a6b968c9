-- Refusals 3 and 7 of a device record, and 1 and 3 of its save, both ways. Assumes nothing.
use Prim.Native.Nat.{ℕ}
use mathlib.Core.Path.{◌≡◌, refl, sym, ap, ◌∙◌}
use mathlib.Core.Bool.{Bool, true, false, cond}
use mathlib.Core.List.{List}
use native.Mathlib.Omega.{arith}
use lib.Dec.{eqb}
use lib.ListN.{length}
use borrow.Author.Tests.{eq-eqb, ne_eqb, eqb-true, eqb-false}
use Rattle.std.proofs.Common.{Result, Ok, Err}
use Rattle.events.specs.declared.Refusal.{Refusal}
use Rattle.events.specs.declared.Event.{Event}
use Rattle.events.specs.declared.Refusal.TheVariants.{ImageLength, ImageRule, Operand}
use Rattle.events.specs.Ranges.{in_range}
use Rattle.device.specs.declared.Device.{Device}
use Rattle.device.specs.Whole.{image_rule}
use Rattle.step.specs.Events.{step_of}
use Rattle.lent.specs.declared.Handled.{Handled}
use Rattle.lent.specs.Handling.{handled_of}
use Rattle.lent.proofs.Refused.{breaks_rule, out_of_range}
use Rattle.layout.specs.Layout.{image_bytes}
use Rattle.image.specs.Image.{saved_of}
use Rattle.demands.specs.Entries.{RecordRefusedByRule, RecordRefusedByOperand, SaveRefusedByLength, SaveRefusedByRule}

-- ---- an event of a record
module _ (d : Device) (e : Event) where
  -- by what the two tests find
  abbrev found : Bool → Bool → Handled
  found kept range =
      cond kept
      (cond range
      (record { device = (step_of d e).device; outcome = Ok (record { answer = (step_of d e).answer; timeouts = (step_of d e).timeouts }) })
      (record { device = d; outcome = Err Operand }))
      (record { device = d; outcome = Err ImageRule })

  handled_by : handled_of d e ≡ found (image_rule d) (in_range e)
  unfolding handled_of
  handled_by = refl

  broken : (kept range : Bool) → (found kept range).outcome ≡ Err ImageRule → kept ≡ false
  broken true true p = grind arith
  broken true false p = grind arith
  broken false range p = refl

  outside : (kept range : Bool) → (found kept range).outcome ≡ Err Operand → (kept ≡ true) × (range ≡ false)
  outside true true p = grind arith
  outside true false p = (refl, refl)
  outside false range p = grind arith

pub record_refused_by_rule : RecordRefusedByRule
record_refused_by_rule d e = (
  λ p. broken d e (image_rule d) (in_range e) (sym (ap (λ (h : Handled). h.outcome) (handled_by d e)) ∙ p),
  λ p. ap (λ (h : Handled). h.outcome) (breaks_rule d e p),
)

pub record_refused_by_operand : RecordRefusedByOperand
record_refused_by_operand d e = (
  λ p. outside d e (image_rule d) (in_range e) (sym (ap (λ (h : Handled). h.outcome) (handled_by d e)) ∙ p),
  λ p. ap (λ (h : Handled). h.outcome) (out_of_range d e p.0 p.1),
)

-- ---- a save of a record
abbrev saved : Bool → Bool → Result (Unit {0}) Refusal
saved long kept = cond long (cond kept (Ok tt) (Err ImageRule)) (Err ImageLength)

saved_by : (d : Device) (b : List ℕ) → saved_of d b ≡ saved (eqb (length b) image_bytes) (image_rule d)
unfolding saved_of
saved_by d b = refl

short : (long kept : Bool) → saved long kept ≡ Err ImageLength → long ≡ false
short true true p = grind arith
short true false p = grind arith
short false kept p = refl

unruled : (long kept : Bool) → saved long kept ≡ Err ImageRule → (long ≡ true) × (kept ≡ false)
unruled true true p = grind arith
unruled true false p = (refl, refl)
unruled false kept p = grind arith

pub save_refused_by_length : SaveRefusedByLength
save_refused_by_length d b = (
  λ p. eqb-false _ _ (short (eqb (length b) image_bytes) (image_rule d) (sym (saved_by d b) ∙ p)),
  λ f. saved_by d b ∙ ap (λ (t : Bool). saved t (image_rule d)) (ne_eqb _ _ f),
)

pub save_refused_by_rule : SaveRefusedByRule
save_refused_by_rule d b = (
  λ p. let u = unruled (eqb (length b) image_bytes) (image_rule d) (sym (saved_by d b) ∙ p) in (eqb-true _ _ u.0, u.1),
  λ h. saved_by d b ∙ ap (λ (t : Bool). saved t (image_rule d)) (eq-eqb _ _ h.0) ∙ ap (λ (t : Bool). saved true t) h.1,
)
