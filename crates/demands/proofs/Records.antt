-- A record by document 01's words: refused by one of 5 to 8, or an event with its operands in range that writes a byte at most. Assumes nothing.
use Rattle.std.specs.Prelude.{Option, Some, None, Result, Ok, Err}
use Rattle.events.specs.declared.Refusal.{Refusal}
use Prim.Native.Nat.{ℕ, zero, suc, ◌+◌, ◌*◌, ◌≤◌, ◌<◌}
use mathlib.Core.Path.{◌≡◌, refl, ◌∙◌}
use mathlib.Core.Bool.{Bool, true, false, cond, ◌&&◌}
use mathlib.Core.List.{List}
use native.Mathlib.Omega.{arith}
use lib.Dec.{T, eqb, leb, lit≤}
use lib.ListN.{get_or-eq_default}
use borrow.Author.Tests.{eqb-true, leb-true, leb-false, le-leb}
use Rattle.channels.specs.Channels.{line, channel}
use Rattle.channels.proofs.Tables.{everywhere}
use Rattle.events.specs.declared.Register.{Register}
use Rattle.events.specs.declared.Event.{Event}
use Rattle.events.specs.declared.Event.TheVariants.{Reset, Read, Write, Level, Input, Clocks, Acknowledge, Raise}
use Rattle.events.specs.declared.Refusal.TheVariants.{RecordMark, Kind, Operand, Serial}
use Rattle.events.specs.Ranges.{in_range}
use Rattle.bits.specs.Bytes.{byte}
use Rattle.bits.proofs.Bits.{joined}
use Rattle.selects.specs.Selects.{registers, register_of, read_select, write_select}
use Rattle.record.specs.Records.{record_bytes, reading, writing, input_of, if_in_range, event_of, meant}
use Rattle.tape.specs.Tapes.{decoded}
use Rattle.record.proofs.Verdicts.{Holds}
use Rattle.demands.specs.Rule.{WritesByte}
use Rattle.demands.specs.Refusals.{RecordMarked, kind_of, operand_a, operand_n, OperandsInRange, of_reset, of_read, of_write, of_level, of_input, of_clocks, of_acknowledge, of_raise, SerialSelect, serial_read, serial_write, RecordInRange, RecordSerial, GoodRecord, RecordMeans, GoodRecordHasEvent}
use Rattle.demands.proofs.Decides.{Decides, equal_decided, most_decided, both_decided, not_held}

-- ---- a register select
data SelectRow (rs : ℕ) : Option Register → Type 0 where
  a_register : rs < 19 → (r : Register) → SelectRow rs (Some r)
  the_serial_port : 19 ≤ rs → SelectRow rs None

select_row : (rs : ℕ) → SelectRow rs (register_of rs)
unfolding register_of
select_row rs = go (leb 19 rs) refl
  where
    is_known : Option Register → Bool
    is_known (Some r) = true
    is_known None = false

    known : (s : Option Register) → T (is_known s) → rs < 19 → SelectRow rs s
    known (Some r) t h = a_register h r
    known None t h = absurd t

    go : (b : Bool) → leb 19 rs ≡ b → SelectRow rs (register_of rs)
    go true e = rw (get_or-eq_default registers None (leb-true _ _ e)) (the_serial_port (leb-true _ _ e))
    go false e = known (register_of rs) (everywhere 19 (λ (k : ℕ). is_known (register_of k)) tt rs (leb-false _ _ e)) (leb-false _ _ e)

-- ---- a kind and its operands
pub data Row (kind a n : ℕ) : Result Event Refusal → Type 0 where
  refuses_kind : 7 < kind → Row kind a n (Err Kind)
  refuses_operand : kind ≤ 7 → (OperandsInRange kind a n → ⊥) → Row kind a n (Err Operand)
  refuses_serial : OperandsInRange kind a n → SerialSelect kind a → Row kind a n (Err Serial)
  gives_event : OperandsInRange kind a n → (SerialSelect kind a → ⊥) → (e : Event) → WritesByte e → in_range e ≡ true → Row kind a n (Ok e)

from_19 : {kind a : ℕ} → SerialSelect kind a → 19 ≤ a
from_19 (serial_read h l) = h
from_19 (serial_write h l) = h

at_most_7 : {kind a n : ℕ} → OperandsInRange kind a n → kind ≤ 7
at_most_7 of_reset = lit≤ tt
at_most_7 (of_read h) = lit≤ tt
at_most_7 (of_write h l) = lit≤ tt
at_most_7 (of_level h l) = lit≤ tt
at_most_7 (of_input h l) = lit≤ tt
at_most_7 of_clocks = lit≤ tt
at_most_7 (of_acknowledge h) = lit≤ tt
at_most_7 (of_raise h l) = lit≤ tt

read_row : {a : ℕ} {s : Option Register} → a ≤ 23 → SelectRow a s → Row 1 a 0 (reading s)
read_row h (a_register l r) = gives_event (of_read h) (λ s. let k = from_19 s in omega arith) (Read r) tt refl
read_row h (the_serial_port l) = refuses_serial (of_read h) (serial_read l h)

write_row : {a n : ℕ} {s : Option Register} → a ≤ 23 → n ≤ 255 → SelectRow a s → Row 2 a n (writing s n)
write_row {n = n} h l (a_register k r) = gives_event (of_write h l) (λ s. let m = from_19 s in omega arith) (Write r n) (omega arith) refl
write_row h l (the_serial_port k) = refuses_serial (of_write h l) (serial_write k h)

in_range_row : {kind a n : ℕ} → OperandsInRange kind a n → Row kind a n (event_of kind a n)
unfolding event_of read_select write_select
in_range_row of_reset = gives_event of_reset (λ s. elim s [ ]) Reset tt refl
in_range_row (of_read {a} h) = rw (le-leb _ _ h) (read_row h (select_row a))
in_range_row (of_write {a} {n} h l) = rw (le-leb _ _ h, le-leb _ _ l) (write_row h l (select_row a))
in_range_row (of_level {a} {n} h l) = rw (le-leb _ _ h, le-leb _ _ l) (gives_event (of_level h l) (λ s. elim s [ ]) (Level (line a) (eqb n 1)) tt (le-leb _ _ h))
in_range_row (of_input {a} {n} h l) = rw (le-leb _ _ h, le-leb _ _ l) (gives_event (of_input h l) (λ s. elim s [ ]) (Input (input_of a) (eqb n 1)) tt refl)
in_range_row (of_clocks {n}) = gives_event of_clocks (λ s. elim s [ ]) (Clocks n) tt refl
in_range_row (of_acknowledge {a} h) = rw (le-leb _ _ h) (gives_event (of_acknowledge h) (λ s. elim s [ ]) (Acknowledge (eqb a 1)) tt refl)
in_range_row (of_raise {a} h l) = rw (le-leb _ _ h, le-leb _ _ l) (gives_event (of_raise h l) (λ s. elim s [ ]) (Raise (channel a)) tt (joined _ _ (le-leb _ _ h) (le-leb _ _ l)))

-- ---- every kind and operands
-- where the decoder's test passes the operands are in range; where it fails they are not
by_test : {kind a n : ℕ} (t : Bool) (d : Result Event Refusal) → event_of kind a n ≡ if_in_range t d → kind ≤ 7 → (t ≡ true → OperandsInRange kind a n) → Row kind a n (event_of kind a n)
by_test true d p h f = in_range_row (f refl)
by_test {kind} {a} {n} false d p h f = rw p (refuses_operand h (λ r. never r (rw p at (in_range_row r))))
  where
    never : OperandsInRange kind a n → Row kind a n (Err Operand) → ⊥
    never r (refuses_operand h f) = f r

row_of : (kind a n : ℕ) → Row kind a n (event_of kind a n)
unfolding event_of
row_of zero a n = by_test _ _ refl (lit≤ tt) (λ t. let b = (both_decided _ _ (equal_decided a 0) (equal_decided n 0)).0 t in rw (b.0, b.1) of_reset)
row_of (suc zero) a n = by_test _ _ refl (lit≤ tt) (λ t. let b = (both_decided _ _ (most_decided a 23) (equal_decided n 0)).0 t in rw b.1 (of_read b.0))
row_of (suc (suc zero)) a n = by_test _ _ refl (lit≤ tt) (λ t. let b = (both_decided _ _ (most_decided a 23) (most_decided n 255)).0 t in of_write b.0 b.1)
row_of (suc (suc (suc zero))) a n = by_test _ _ refl (lit≤ tt) (λ t. let b = (both_decided _ _ (most_decided a 7) (most_decided n 1)).0 t in of_level b.0 b.1)
row_of (suc (suc (suc (suc zero)))) a n = by_test _ _ refl (lit≤ tt) (λ t. let b = (both_decided _ _ (most_decided a 1) (most_decided n 1)).0 t in of_input b.0 b.1)
row_of (suc (suc (suc (suc (suc zero))))) a n = by_test _ _ refl (lit≤ tt) (λ t. rw (eqb-true a 0 t) of_clocks)
row_of (suc (suc (suc (suc (suc (suc zero)))))) a n = by_test _ _ refl (lit≤ tt) (λ t. let b = (both_decided _ _ (most_decided a 1) (equal_decided n 0)).0 t in rw b.1 (of_acknowledge b.0))
row_of (suc (suc (suc (suc (suc (suc (suc zero))))))) a n = by_test _ _ refl (lit≤ tt) (λ t. let b = (both_decided _ _ (both_decided _ _ (most_decided 9 a) (most_decided a 12)) (equal_decided n 0)).0 t in rw b.1 (of_raise b.0.0 b.0.1))
row_of (suc (suc (suc (suc (suc (suc (suc (suc k)))))))) a n = refuses_kind (omega arith)

-- ---- a record
abbrev pub MarkedRow : List ℕ → ℕ → Result Event Refusal → Type 0
MarkedRow tape i = Row (kind_of tape i) (operand_a tape i) (operand_n tape i)

pub data RecordRow (tape : List ℕ) (i : ℕ) : Result Event Refusal → Type 0 where
  refuses_mark : (RecordMarked tape i → ⊥) → RecordRow tape i (Err RecordMark)
  past_mark : {d : Result Event Refusal} → RecordMarked tape i → MarkedRow tape i d → RecordRow tape i d

record_mark_decided : (tape : List ℕ) (i : ℕ) → Decides (eqb (byte tape (i * record_bytes)) 0x4D && eqb (byte tape (i * record_bytes + 1)) 0x45) (RecordMarked tape i)
record_mark_decided tape i = both_decided _ _ (equal_decided _ _) (equal_decided _ _)

pub record_row : (tape : List ℕ) (i : ℕ) → RecordRow tape i (decoded tape (i * record_bytes))
unfolding decoded meant
record_row tape i = go (eqb (byte tape (i * record_bytes)) 0x4D && eqb (byte tape (i * record_bytes + 1)) 0x45) refl
  where
    go : (b : Bool) → (eqb (byte tape (i * record_bytes)) 0x4D && eqb (byte tape (i * record_bytes + 1)) 0x45) ≡ b
        → RecordRow tape i (cond b (event_of (kind_of tape i) (operand_a tape i) (operand_n tape i)) (Err RecordMark))
    go true e = past_mark ((record_mark_decided tape i).0 e) (row_of (kind_of tape i) (operand_a tape i) (operand_n tape i))
    go false e = refuses_mark (not_held _ (record_mark_decided tape i) e)

module _ {tape : List ℕ} {i : ℕ} where
  event_held : {d : Result Event Refusal} → RecordRow tape i d → GoodRecord tape i → Holds d
  event_held (refuses_mark f) g = absurd (f g.marked)
  event_held (past_mark m (refuses_kind h)) g = absurd (let k = at_most_7 g.operands in omega arith)
  event_held (past_mark m (refuses_operand h f)) g = absurd (f g.operands)
  event_held (past_mark m (refuses_serial r s)) g = absurd (g.no_serial s)
  event_held (past_mark m (gives_event r n e b w)) g = record { event = e; is = refl }

  good_of : {e : Event} → RecordRow tape i (Ok e) → GoodRecord tape i
  good_of (past_mark m (gives_event r n e b w)) = record { marked = m; operands = r; no_serial = n }

  pub bytes_of : {e : Event} → RecordRow tape i (Ok e) → WritesByte e
  bytes_of (past_mark m (gives_event r n e b w)) = b

  pub range_of : {e : Event} → RecordRow tape i (Ok e) → in_range e ≡ true
  range_of (past_mark m (gives_event r n e b w)) = w

pub good_record_has_event : GoodRecordHasEvent
good_record_has_event tape i = (λ g. let h = event_held (record_row tape i) g in record { event = h.event; means = h.is }, λ h. good_of (rw h.means at (record_row tape i)))

pub meaning_is_good : (tape : List ℕ) (i : ℕ) (e : Event) → RecordMeans tape i e → GoodRecord tape i
meaning_is_good tape i e p = (good_record_has_event tape i).1 (record { event = e; means = p })

-- a record that means what a good one does is good
pub same_meaning_is_good : (s t : List ℕ) (i j : ℕ) → decoded s (i * record_bytes) ≡ decoded t (j * record_bytes) → GoodRecord t j → GoodRecord s i
same_meaning_is_good s t i j p g = let h = (good_record_has_event t j).0 g in meaning_is_good s i h.event (p ∙ h.means)

-- ---- the rows 5 to 8, back to the decoder
module _ (tape : List ℕ) (i : ℕ) where
  pub record_mark_refused : (RecordMarked tape i → ⊥) → decoded tape (i * record_bytes) ≡ Err RecordMark
  record_mark_refused f = go (record_row tape i)
    where
      go : {d : Result Event Refusal} → RecordRow tape i d → d ≡ Err RecordMark
      go (refuses_mark g) = refl
      go (past_mark m r) = absurd (f m)

  module _ (m : RecordMarked tape i) where
    marked_row : MarkedRow tape i (decoded tape (i * record_bytes))
    marked_row = go (record_row tape i)
      where
        go : {d : Result Event Refusal} → RecordRow tape i d → MarkedRow tape i d
        go (refuses_mark f) = absurd (f m)
        go (past_mark m r) = r

    pub kind_refused : 7 < kind_of tape i → decoded tape (i * record_bytes) ≡ Err Kind
    kind_refused h = go marked_row
      where
        go : {d : Result Event Refusal} → MarkedRow tape i d → d ≡ Err Kind
        go (refuses_kind l) = refl
        go (refuses_operand l f) = absurd (omega arith)
        go (refuses_serial r s) = absurd (let k = at_most_7 r in omega arith)
        go (gives_event r n e b w) = absurd (let k = at_most_7 r in omega arith)

    pub operand_refused : kind_of tape i ≤ 7 → (RecordInRange tape i → ⊥) → decoded tape (i * record_bytes) ≡ Err Operand
    operand_refused h f = go marked_row
      where
        go : {d : Result Event Refusal} → MarkedRow tape i d → d ≡ Err Operand
        go (refuses_kind l) = absurd (omega arith)
        go (refuses_operand l g) = refl
        go (refuses_serial r s) = absurd (f r)
        go (gives_event r n e b w) = absurd (f r)

    pub serial_refused : RecordInRange tape i → RecordSerial tape i → decoded tape (i * record_bytes) ≡ Err Serial
    serial_refused r s = go marked_row
      where
        go : {d : Result Event Refusal} → MarkedRow tape i d → d ≡ Err Serial
        go (refuses_kind l) = absurd (let k = at_most_7 r in omega arith)
        go (refuses_operand l f) = absurd (f r)
        go (refuses_serial r s) = refl
        go (gives_event r n e b w) = absurd (n s)
