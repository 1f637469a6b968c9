-- What the check finds of one record, and what a record let pass says of its event. Assumes nothing.
use Rattle.std.specs.Prelude.{Option, Some, None, Result, Ok, Err}
use Rattle.std.specs.Result.{result_and}
use Prim.Native.Nat.{ℕ}
use mathlib.Core.Path.{◌≡◌, refl, sym}
use mathlib.Core.Bool.{Bool, true, false, cond}
use Rattle.events.specs.declared.Register.{Register}
use Rattle.events.specs.declared.Event.{Event}
use Rattle.events.specs.declared.Refusal.{Refusal}
use Rattle.events.specs.declared.Refusal.TheVariants.{Operand}
use Rattle.record.specs.Records.{reading, writing, if_in_range}
use Rattle.record.specs.Verdicts.{verdict_of}

-- ---- from a verdict back to what the record means
-- the event of a record that has one
pub record Holds (d : Result Event Refusal) : Type 0 where
  pub event : Event
  pub is : d ≡ Ok event

apart : {X : Type 0} {r : Refusal} → ◌≡◌ {A = Result (Unit {0}) Refusal} (Err r) (Ok tt) → X
apart p = absurd (cc)

pub sound : (d : Result Event Refusal) → verdict_of d ≡ Ok tt → Holds d
sound (Ok x) p = record { event = x; is = refl }
sound (Err s) p = apart p

pub wrong : (d : Result Event Refusal) (r : Refusal) → verdict_of d ≡ Err r → d ≡ Err r
wrong (Ok x) r p = apart (sym p)
wrong (Err s) r p = cc

-- ---- how a verdict is made: the range first, then the select, which is refused alike in a read and in a write
pub written : (t : Bool) (s : Option Register) (n : ℕ) → result_and {T = Unit {0}} (cond t (Ok tt) (Err Operand)) (verdict_of (reading s)) ≡ verdict_of (if_in_range t (writing s n))
written true (Some r) n = refl
written true None n = refl
written false s n = refl

-- ---- from an event back to the tests before it
pub no_event : {X : Type 0} {r : Refusal} {e : Event} → ◌≡◌ {A = Result Event Refusal} (Err r) (Ok e) → X
no_event p = absurd (cc)

-- a test before an event has held, and the event is what stood behind it
pub tested : (t : Bool) (r : Refusal) {d : Result Event Refusal} {e : Event} → cond t d (Err r) ≡ Ok e → (t ≡ true) × (d ≡ Ok e)
tested true r p = (refl, p)
tested false r p = no_event p
