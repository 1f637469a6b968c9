-- The check of a whole tape, case by case: refusal 4, 5 to 8, 9, or none. Assumes nothing.
use Rattle.std.specs.Prelude.{Result, Ok, Err}
use Prim.Native.Nat.{ℕ, zero, suc, ◌+◌, ◌*◌, ◌%◌, ◌≤◌, ◌<◌}
use mathlib.Core.Path.{◌≡◌, refl, ap, ◌∙◌}
use mathlib.Core.Bool.{Bool, true, false, cond, ◌&&◌}
use mathlib.Core.List.{List}
use native.Mathlib.Omega.{arith}
use lib.Dec.{eqb, leb, lit<}
use lib.ListN.{length}
use borrow.Author.Tests.{eq-eqb, ne_eqb, le-leb, lt-leb, leb-true, eqb-true}
use Rattle.events.specs.declared.Refusal.{Refusal}
use Rattle.events.specs.declared.Refusal.TheVariants.{ImageLength, ImageMark, ImageRule, TapeLength, RecordMark, Kind, Operand, Serial, AnswerLength, RowLength}
use Rattle.events.specs.declared.Event.{Event}
use Rattle.events.specs.declared.RefusedAt.{RefusedAt}
use Rattle.events.specs.Numbers.{number_of, returned}
use Rattle.record.specs.Records.{record_bytes}
use Rattle.tape.specs.Tapes.{tape_most, fitting, records, decoded}
use Rattle.checks.specs.Checks.{bad_at, first_bad_at, first_bad, after_records, checked, result_code, tape_result}
use Rattle.answer.specs.Answers.{answer_bytes}

-- a refusal's number is not 0
pub returned_above : (r : Refusal) (i : ℕ) → returned r i ≡ 0 → ⊥
returned_above ImageLength i e = omega arith
returned_above ImageMark i e = omega arith
returned_above ImageRule i e = omega arith
returned_above TapeLength i e = omega arith
returned_above RecordMark i e = omega arith
returned_above Kind i e = omega arith
returned_above Operand i e = omega arith
returned_above Serial i e = omega arith
returned_above AnswerLength i e = omega arith
returned_above RowLength i e = omega arith

-- and fits a byte
pub number_low : (r : Refusal) → number_of r < 256
number_low ImageLength = lit< tt
number_low ImageMark = lit< tt
number_low ImageRule = lit< tt
number_low TapeLength = lit< tt
number_low RecordMark = lit< tt
number_low Kind = lit< tt
number_low Operand = lit< tt
number_low Serial = lit< tt
number_low AnswerLength = lit< tt
number_low RowLength = lit< tt

-- so the call returns 0 exactly if nothing is refused
pub nothing_refused : (c : Result (Unit {0}) RefusedAt) → result_code c ≡ 0 → c ≡ Ok tt
nothing_refused (Ok u) p = refl
nothing_refused (Err e) p = absurd (returned_above e.refusal e.index p)

-- the record refused is one of those checked
bad_below : (tape : List ℕ) (i k : ℕ) (e : RefusedAt) → first_bad tape i k ≡ Err e → e.index < i + k
unfolding first_bad
bad_below tape i zero e p = absurd (cc)
bad_below tape i (suc k) e p = go (decoded tape (i * record_bytes)) p (bad_below tape (i + 1) k e)
  where
    go : (d : Result Event Refusal) → first_bad_at d i (first_bad tape (i + 1) k) ≡ Err e → (first_bad tape (i + 1) k ≡ Err e → e.index < i + 1 + k) → e.index < i + suc k
    go (Ok x) q ih = let f = ih q in omega arith
    go (Err s) q ih = let g : record { refusal = s; index = i } ≡ e = cc in let h : i ≡ e.index = ap (λ (x : RefusedAt). x.index) g in omega arith

pub index_below : (tape : List ℕ) (n : ℕ) (e : RefusedAt) → first_bad tape 0 n ≡ Err e → e.index < n
index_below tape n e p = omega (arith, bad_below tape 0 n e p)

module _ (tape : List ℕ) (room : ℕ) where
  -- ---- refusal 4
  pub uneven : (length tape % record_bytes ≡ 0 → ⊥) → checked tape room ≡ bad_at TapeLength 0
  unfolding checked fitting
  uneven h = rw (ne_eqb _ _ h) refl

  pub too_long : tape_most < length tape → checked tape room ≡ bad_at TapeLength 0
  unfolding checked fitting
  too_long h = rw (lt-leb _ _ h) (never (eqb (length tape % record_bytes) 0))
    where
      never : (b : Bool) → cond (b && false) (after_records (first_bad tape 0 (records tape)) (records tape) room) (bad_at TapeLength 0) ≡ bad_at TapeLength 0
      never true = refl
      never false = refl

  -- ---- a tape of accepted length
  module _ (even : length tape % record_bytes ≡ 0) (short : length tape ≤ tape_most) where
    by_records : checked tape room ≡ after_records (first_bad tape 0 (records tape)) (records tape) room
    unfolding checked fitting
    by_records = rw (eq-eqb _ _ even, le-leb _ _ short) refl

    by_check : (c : Result (Unit {0}) RefusedAt) → first_bad tape 0 (records tape) ≡ c → checked tape room ≡ after_records c (records tape) room
    by_check c e = by_records ∙ ap (λ (d : Result (Unit {0}) RefusedAt). after_records d (records tape) room) e

    pub bad : (r : Refusal) (i : ℕ) → first_bad tape 0 (records tape) ≡ bad_at r i → checked tape room ≡ bad_at r i
    bad r i e = by_check _ e

    pub roomy : first_bad tape 0 (records tape) ≡ Ok tt → answer_bytes * records tape ≤ room → checked tape room ≡ Ok tt
    roomy e h = by_check _ e ∙ rw (le-leb _ _ h) refl

    pub cramped : first_bad tape 0 (records tape) ≡ Ok tt → room < answer_bytes * records tape → checked tape room ≡ bad_at AnswerLength 0
    cramped e h = by_check _ e ∙ rw (lt-leb _ _ h) refl

  -- ---- what an accepted tape has shown
  pub record Passed : Type 0 where
    pub even : length tape % record_bytes ≡ 0
    pub short : length tape ≤ tape_most
    pub fine : first_bad tape 0 (records tape) ≡ Ok tt
    pub roomy : answer_bytes * records tape ≤ room

  by_tests : (a b : Bool) (c : Result (Unit {0}) RefusedAt) (f : Bool) → eqb (length tape % record_bytes) 0 ≡ a → leb (length tape) tape_most ≡ b → first_bad tape 0 (records tape) ≡ c → leb (answer_bytes * records tape) room ≡ f
      → cond (a && b) (after_records c (records tape) room) (bad_at TapeLength 0) ≡ Ok tt → Passed
  by_tests true true (Ok u) true p q r s t = record { even = eqb-true _ _ p; short = leb-true _ _ q; fine = r; roomy = leb-true _ _ s }
  by_tests true true (Ok u) false p q r s t = let z : bad_at AnswerLength 0 ≡ Ok tt = rw s at t in absurd (cc)
  by_tests true true (Err e) f p q r s t = absurd (cc)
  by_tests true false c f p q r s t = absurd (cc)
  by_tests false b c f p q r s t = absurd (cc)

  pub let_through : checked tape room ≡ Ok tt → Passed
  unfolding checked fitting
  let_through e = by_tests (eqb (length tape % record_bytes) 0) (leb (length tape) tape_most) (first_bad tape 0 (records tape)) (leb (answer_bytes * records tape) room) refl refl refl refl e

  -- and so of one whose code is 0
  pub passed : tape_result tape room ≡ 0 → Passed
  passed e = let_through (nothing_refused _ e)
