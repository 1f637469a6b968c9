-- The event that the run takes of a record let pass is the event that the record means: n is then its lowest byte in all kinds but 5. Assumes nothing.
use Rattle.std.specs.Prelude.{Option, Some, None, Result, Ok}
use Prim.Native.Nat.{ℕ, zero, suc, ◌≤◌}
use mathlib.Core.Path.{◌≡◌, refl, sym, ap, ◌∙◌}
use mathlib.Core.Bool.{Bool, true, false, ◌&&◌}
use native.Mathlib.Omega.{arith}
use lib.Dec.{leb, eqb}
use lib.ListN.{get_or}
use borrow.Author.Tests.{leb-true}
use Rattle.channels.specs.Channels.{line, channel}
use Rattle.lines.specs.Registers.{is_line}
use Rattle.events.specs.declared.Register.{Register}
use Rattle.events.specs.declared.Event.{Event}
use Rattle.events.specs.declared.Event.TheVariants.{Read, Write, Level, Input, Raise}
use Rattle.events.specs.declared.Refusal.{Refusal}
use Rattle.events.specs.declared.Refusal.TheVariants.{RecordMark, Operand}
use Rattle.events.specs.Ranges.{is_serial_channel}
use Rattle.selects.specs.Selects.{read_select, write_select}
use Rattle.record.specs.Records.{Raw, record_mark0, record_mark1, reading, writing, input_of, event_of, operand, meant}
use Rattle.selects.specs.Selects.{known_of}
use Rattle.record.specs.Taken.{taken_as, taken}
use Rattle.record.proofs.Operands.{low}
use Rattle.record.proofs.Verdicts.{no_event, tested}

one : {x e : Event} → ◌≡◌ {A = Result Event Refusal} (Ok x) (Ok e) → x ≡ e
one p = cc

-- a select that was let pass is known
read_one : (s : Option Register) (e : Event) → reading s ≡ Ok e → Read (known_of s) ≡ e
read_one (Some r) e p = one p
read_one None e p = no_event p

write_one : (s : Option Register) (n : ℕ) (e : Event) → writing s n ≡ Ok e → Write (known_of s) n ≡ e
write_one (Some r) n e p = one p
write_one None n e p = no_event p

both_right : (s t : Bool) → (s && t) ≡ true → t ≡ true
both_right true t p = p
both_right false true p = refl
both_right false false p = p

module _ (r : Raw) (e : Event) where
  by_kind : (k : ℕ) → event_of k r.a (operand r) ≡ Ok e → get_or (taken_as r) k (Raise (channel r.a)) ≡ e
  unfolding event_of
  by_kind zero p = one (tested (eqb r.a 0 && eqb (operand r) 0) Operand p).1
  by_kind (suc zero) p = read_one (read_select r.a) e (tested (leb r.a 23 && eqb (operand r) 0) Operand p).1
  by_kind (suc (suc zero)) p =
      let t = tested (leb r.a 23 && leb (operand r) 255) Operand p in
      ap (Write (known_of (write_select r.a))) (sym (low r (leb-true _ _ (both_right (leb r.a 23) (leb (operand r) 255) t.0)))) ∙ write_one (write_select r.a) (operand r) e t.1
  by_kind (suc (suc (suc zero))) p =
      let t = tested (is_line r.a && leb (operand r) 1) Operand p in
      let h : operand r ≤ 1 = leb-true _ _ (both_right (is_line r.a) (leb (operand r) 1) t.0) in
      ap (λ (n : ℕ). Level (line r.a) (eqb n 1)) (sym (low r (omega arith))) ∙ one t.1
  by_kind (suc (suc (suc (suc zero)))) p =
      let t = tested (leb r.a 1 && leb (operand r) 1) Operand p in
      let h : operand r ≤ 1 = leb-true _ _ (both_right (leb r.a 1) (leb (operand r) 1) t.0) in
      ap (λ (n : ℕ). Input (input_of r.a) (eqb n 1)) (sym (low r (omega arith))) ∙ one t.1
  by_kind (suc (suc (suc (suc (suc zero))))) p = one (tested (eqb r.a 0) Operand p).1
  by_kind (suc (suc (suc (suc (suc (suc zero)))))) p = one (tested (leb r.a 1 && eqb (operand r) 0) Operand p).1
  by_kind (suc (suc (suc (suc (suc (suc (suc zero))))))) p = one (tested (is_serial_channel r.a && eqb (operand r) 0) Operand p).1
  by_kind (suc (suc (suc (suc (suc (suc (suc (suc k)))))))) p = no_event p

  pub taken_is_meant : meant r ≡ Ok e → taken r ≡ e
  unfolding meant taken
  taken_is_meant p = by_kind r.kind (tested (eqb r.mark0 record_mark0 && eqb r.mark1 record_mark1) RecordMark p).1
