-- Document 01: an event of a device record, or refusal 3 or 7.
use Rattle.std.specs.Prelude.{cond, Ok, Err}
use Rattle.events.specs.declared.Event.{Event}
use Rattle.events.specs.declared.Refusal.TheVariants.{ImageRule, Operand}
use Rattle.events.specs.Ranges.{in_range}
use Rattle.device.specs.declared.Device.{Device}
use Rattle.device.specs.Whole.{image_rule}
use Rattle.step.specs.Events.{step_of}
use Rattle.lent.specs.declared.Handled.{Handled}

-- 3: "image or device record breaks the image rule", 7: "operand out of range"; "Every refusal leaves [..] device record [..] unchanged."
unfoldable pub handled_of : Device → Event → Handled
handled_of d e =
    cond (image_rule d)
    (cond (in_range e)
    (record { device = (step_of d e).device; outcome = Ok (record { answer = (step_of d e).answer; timeouts = (step_of d e).timeouts }) })
    (record { device = d; outcome = Err Operand }))
    (record { device = d; outcome = Err ImageRule })
