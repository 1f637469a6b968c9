-- One record more or less of a tape: what the run does with it. Assumes nothing.
use Rattle.std.specs.Prelude.{Result, Ok}
use Prim.Native.Nat.{ℕ, suc, ◌+◌, ◌-◌, ◌*◌, ◌%◌, ◌≤◌, ◌<◌}
use mathlib.Core.Path.{◌≡◌, refl, ap, ◌∙◌}
use mathlib.Core.List.{List, [], ◌∷◌}
use native.Mathlib.Omega.{arith}
use lib.ListN.{length}
use borrow.Author.Tests.{eq-eqb, le-leb, lt-leb}
use Rattle.events.specs.declared.Event.{Event}
use Rattle.events.specs.declared.Refusal.{Refusal}
use Rattle.record.specs.Records.{record_bytes}
use Rattle.tape.specs.Tapes.{tape_most, fitting, records, decoded, found_in, record_at, events_at, events}

module _ (tape : List ℕ) (i n : ℕ) (h : i < n) where
  -- the records from the i-th on are the i-th and those after it
  pub more : n - i ≡ suc (n - (i + 1))
  more = omega arith

  -- the event of the i-th record
  pub event_valid : (e : Event) → decoded tape (i * record_bytes) ≡ Ok e → events tape i (n - i) ≡ e ∷ events tape (i + 1) (n - (i + 1))
  unfolding events
  event_valid e p = ap (events tape i) more ∙ ap (λ (d : Result Event Refusal). events_at d (events tape (i + 1) (n - (i + 1)))) p

-- past the last record
pub events_none : (tape : List ℕ) (i : ℕ) → events tape i 0 ≡ []
unfolding events
events_none tape i = refl

-- what a tape of accepted length has at the index of a record
pub there : (tape : List ℕ) (i : ℕ) → length tape % record_bytes ≡ 0 → length tape ≤ tape_most → i < records tape → record_at tape i ≡ found_in (decoded tape (i * record_bytes))
unfolding record_at fitting
there tape i e h l = rw (eq-eqb _ _ e, le-leb _ _ h, lt-leb _ _ l) refl
