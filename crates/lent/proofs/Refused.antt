-- 3: "image or device record breaks the image rule", 7: "operand out of range": what each refusal answers, under which condition, and that it leaves the record as it came.
-- Assumes nothing.
use mathlib.Core.Path.{◌≡◌, refl}
use mathlib.Core.Bool.{Bool, true, false, cond}
use Rattle.device.specs.declared.Device.{Device}
use Rattle.events.specs.declared.Event.{Event}
use Rattle.events.specs.declared.Refusal.{Refusal}
use Rattle.events.specs.declared.Refusal.TheVariants.{ImageRule, Operand}
use Rattle.std.proofs.Common.{Ok, Err}
use Rattle.lent.specs.declared.Handled.{Handled}
use Rattle.events.specs.Numbers.{number_of}
use Rattle.events.specs.Ranges.{in_range}
use Rattle.device.specs.Whole.{image_rule}
use Rattle.step.specs.Events.{step_of}
use Rattle.lent.specs.Handling.{handled_of}

pub breaks_rule : (d : Device) (e : Event) → image_rule d ≡ false → handled_of d e ≡ record { device = d; outcome = Err ImageRule }
unfolding handled_of
breaks_rule d e p = rw p refl

pub out_of_range : (d : Device) (e : Event) → image_rule d ≡ true → in_range e ≡ false → handled_of d e ≡ record { device = d; outcome = Err Operand }
unfolding handled_of
out_of_range d e p q = rw (p, q) refl

-- the table's numbers of the two
pub numbers : (number_of ImageRule ≡ 3) × (number_of Operand ≡ 7)
numbers = (refl, refl)

-- "Every refusal leaves [..] device record [..] unchanged."
pub refused_keeps : (d : Device) (e : Event) (k : Refusal) → (handled_of d e).outcome ≡ Err k → (handled_of d e).device ≡ d
unfolding handled_of
refused_keeps d e k = go (image_rule d) (in_range e)
  where
    answered : Handled
    answered = record { device = (step_of d e).device; outcome = Ok (record { answer = (step_of d e).answer; timeouts = (step_of d e).timeouts }) }

    refused : Refusal → Handled
    refused n = record { device = d; outcome = Err n }

    go : (kept range : Bool) → (cond kept (cond range answered (refused Operand)) (refused ImageRule)).outcome ≡ Err k → (cond kept (cond range answered (refused Operand)) (refused ImageRule)).device ≡ d
    go true true p = cc
    go true false p = refl
    go false range p = refl
