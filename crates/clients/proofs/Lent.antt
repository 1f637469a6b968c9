-- `lent::event` and `row::acknowledge` promise one outcome too. Each promise is written out here, and proved to be the very clause of its contract: a weakened contract breaks `event_clause` or `row_clause`.
-- Assumes nothing.
use Rattle.std.specs.Prelude.{Option, Result}
use mathlib.Core.Path.{◌≡◌, refl, sym, ◌∙◌}
use mathlib.Core.List.{List}
use seplogic.Ra.Ura.{Ura}
use base.Logic.{SProp}
use contract.Lifetimes.{Lfts}
use contract.Monad.{Fun, fact}
use types.Logic.{Logic}
use prog.Memory.{Memory}
use prog.Routine.{Routine}
use Rattle.std.proofs.Common.{Result}
use Rattle.events.specs.declared.Event.{Event}
use Rattle.events.specs.declared.Refusal.{Refusal}
use Rattle.device.specs.declared.Device.{Device}
use Rattle.lent.specs.declared.Answered.{Answered}
use Rattle.lent.specs.Handling.{handled_of}
use Rattle.lent.specs.contracts.event as event
use Rattle.events.specs.declared.RefusedAt.{RefusedAt}
use Rattle.row.specs.declared.Given.{Given}
use Rattle.row.specs.Rows.{row_answer, row_after}
use Rattle.row.specs.contracts.acknowledge as row
use Rattle.clients.specs.Unique.{FixesResult, FixesBuffer}

-- of the record and the event at entry, the outcome, and the record at exit
abbrev Promise : Unit {0} → Device × Event → Result Answered Refusal → Device → Type 0
Promise κ a r after = (r ≡ (handled_of a.0 a.1).outcome) × (after ≡ (handled_of a.0 a.1).device)

event_clause : {M : Type 1} {𝓤 : Ura M} (𝓛 : Logic 𝓤) (κs : Lfts 1) (at_mem : Memory → SProp 𝓤) (run : Routine → Fun 𝓤) (d : _) (e : _) (d' : _) (e' : _) (r : _)
    → event.ensures-1 𝓛 κs at_mem run d e d' e' r ≡ fact 𝓤 (Promise tt (d'.entry.now, e) r d'.exit.now)
event_clause 𝓛 κs at_mem run d e d' e' r = refl

lent_event_fixed : FixesResult {Lifetimes = Unit {0}} Promise
lent_event_fixed κ a x y s t p q = p.0 ∙ sym q.0

lent_event_record_fixed : FixesBuffer {Lifetimes = Unit {0}} Promise (λ κ s. s)
lent_event_record_fixed κ a x y s t p q = p.1 ∙ sym q.1

-- of the row at entry, the answer, and the row at exit
abbrev RowPromise : Unit {0} → List Device → Result (Option Given) RefusedAt → List Device → Type 0
RowPromise κ ds r after = (r ≡ row_answer ds) × (after ≡ row_after ds)

row_clause : {M : Type 1} {𝓤 : Ura M} (𝓛 : Logic 𝓤) (κs : Lfts 1) (at_mem : Memory → SProp 𝓤) (run : Routine → Fun 𝓤) (d : _) (d' : _) (r : _)
    → row.ensures-1 𝓛 κs at_mem run d d' r ≡ fact 𝓤 (RowPromise tt d'.entry.now r d'.exit.now)
row_clause 𝓛 κs at_mem run d d' r = refl

row_acknowledge_fixed : FixesResult {Lifetimes = Unit {0}} RowPromise
row_acknowledge_fixed κ a x y s t p q = p.0 ∙ sym q.0

row_acknowledge_row_fixed : FixesBuffer {Lifetimes = Unit {0}} RowPromise (λ κ s. s)
row_acknowledge_row_fixed κ a x y s t p q = p.1 ∙ sym q.1
