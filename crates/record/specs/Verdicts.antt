-- The verdict on a record: whether its bytes mean an event, or the refusal. What Records says of them, without the event.
use Rattle.std.specs.Prelude.{Result, Ok, Err}
use Rattle.events.specs.declared.Event.{Event}
use Rattle.events.specs.declared.Refusal.{Refusal}

abbrev pub verdict_of : Result Event Refusal → Result (Unit {0}) Refusal
verdict_of (Ok e) = Ok tt
verdict_of (Err r) = Err r
