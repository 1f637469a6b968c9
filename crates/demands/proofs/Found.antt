-- What a record looked up by its index is refused with, and where the tape ends. Assumes nothing.
use Rattle.std.specs.Prelude.{Option, None, Result, Ok, Err}
use Rattle.events.specs.declared.Refusal.{Refusal}
use Rattle.events.specs.declared.Event.{Event}
use Prim.Native.Nat.{ℕ, ◌*◌, ◌≤◌}
use mathlib.Core.Path.{◌≡◌, refl, sym, ◌∙◌}
use mathlib.Core.Bool.{Bool, true, false, cond}
use mathlib.Core.List.{List}
use native.Mathlib.Omega.{arith}
use lib.Dec.{leb}
use borrow.Author.Tests.{leb-true, le-leb}
use Rattle.events.specs.declared.Refusal.TheVariants.{TapeLength}
use Rattle.record.specs.Records.{record_bytes}
use Rattle.tape.specs.Tapes.{records, decoded, fitting, found_in, record_at}
use Rattle.demands.specs.Refusals.{WholeTape, FoundRefusesLength, FoundPastEnd}
use Rattle.demands.proofs.Decides.{Decides, equal_decided, most_decided, both_decided, not_passed}
use Rattle.demands.proofs.Records.{RecordRow, refuses_mark, past_mark, refuses_kind, refuses_operand, refuses_serial, gives_event, record_row}

module _ (tape : List ℕ) (i : ℕ) where
  fitting_decided : Decides (fitting tape) (WholeTape tape)
  unfolding fitting
  fitting_decided = both_decided _ _ (equal_decided _ _) (most_decided _ _)

  -- no record is refused with 4
  not_by_record : {d : Result Event Refusal} → RecordRow tape i d → found_in d ≡ Err TapeLength → ⊥
  not_by_record (refuses_mark f) p = let z : ◌≡◌ {A = ℕ} 0 1 = cc in omega arith
  not_by_record (past_mark m (refuses_kind h)) p = let z : ◌≡◌ {A = ℕ} 0 1 = cc in omega arith
  not_by_record (past_mark m (refuses_operand h f)) p = let z : ◌≡◌ {A = ℕ} 0 1 = cc in omega arith
  not_by_record (past_mark m (refuses_serial r s)) p = let z : ◌≡◌ {A = ℕ} 0 1 = cc in omega arith
  not_by_record (past_mark m (gives_event r n e b w)) p = let z : ◌≡◌ {A = ℕ} 0 1 = cc in omega arith

  not_past : (d : Result Event Refusal) → found_in d ≡ Ok None → ⊥
  not_past (Ok e) p = let z : ◌≡◌ {A = ℕ} 0 1 = cc in omega arith
  not_past (Err r) p = let z : ◌≡◌ {A = ℕ} 0 1 = cc in omega arith

  -- what a tape of accepted length has at index i
  there : WholeTape tape → record_at tape i ≡ cond (leb (records tape) i) (Ok None) (found_in (decoded tape (i * record_bytes)))
  unfolding record_at
  there w = rw (fitting_decided.1 w) refl

  elsewhere : (WholeTape tape → ⊥) → record_at tape i ≡ Err TapeLength
  unfolding record_at
  elsewhere f = rw (not_passed _ fitting_decided f) refl

  no_length : (b : Bool) → cond b (Ok None) (found_in (decoded tape (i * record_bytes))) ≡ Err TapeLength → ⊥
  no_length true p = let z : ◌≡◌ {A = ℕ} 0 1 = cc in omega arith
  no_length false p = not_by_record (record_row tape i) p

  ended : (b : Bool) → leb (records tape) i ≡ b → cond b (Ok None) (found_in (decoded tape (i * record_bytes))) ≡ Ok None → records tape ≤ i
  ended true e p = leb-true _ _ e
  ended false e p = absurd (not_past (decoded tape (i * record_bytes)) p)

  whole_or_not : (b : Bool) → fitting tape ≡ b → record_at tape i ≡ Ok None → WholeTape tape
  unfolding record_at
  whole_or_not true e p = fitting_decided.0 e
  whole_or_not false e p = let q : ◌≡◌ {A = Result (Option Event) Refusal} (Err TapeLength) (Ok None) = rw e at p in let z : ◌≡◌ {A = ℕ} 0 1 = cc in absurd (omega arith)

pub found_refuses_length : FoundRefusesLength
found_refuses_length tape i = (λ p w. no_length tape i (leb (records tape) i) (sym (there tape i w) ∙ p), elsewhere tape i)

pub found_past_end : FoundPastEnd
found_past_end tape i = (
  λ p. let w = whole_or_not tape i (fitting tape) refl p in (w, ended tape i (leb (records tape) i) refl (sym (there tape i w) ∙ p)),
  λ h. there tape i h.0 ∙ rw (le-leb _ _ h.1) refl,
)
