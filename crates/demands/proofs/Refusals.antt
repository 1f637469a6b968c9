-- Every call has its row of document 01's table, and no other; it ends with its answers or with a refusal. Assumes nothing.
use Rattle.std.specs.Prelude.{Result, Ok, Err}
use Rattle.events.specs.declared.Event.{Event}
use Prim.Native.Nat.{ℕ, zero, suc, ◌+◌, ◌*◌, ◌%◌, ◌≤◌, ◌<◌}
use mathlib.Core.Path.{◌≡◌, refl, sym, ap, subst, ◌∙◌}
use mathlib.Core.Bool.{Bool, true, false, ◌&&◌}
use mathlib.Core.List.{List}
use mathlib.Core.Logic.{inl, inr}
use native.Mathlib.Omega.{arith}
use lib.Dec.{eqb, leb}
use lib.ListN.{length}
use borrow.Author.Tests.{eq-eqb, ne_eqb, eqb-true, eqb-false, leb-true, leb-false}
use Rattle.std.proofs.Common.{Ok, Err}
use Rattle.device.specs.declared.Device.{Device}
use Rattle.events.specs.declared.Refusal.{Refusal}
use Rattle.events.specs.declared.Refusal.TheVariants.{ImageLength, ImageMark, ImageRule, TapeLength, RecordMark, Kind, Operand, Serial, AnswerLength}
use Rattle.device.specs.Whole.{image_rule}
use Rattle.layout.specs.Layout.{image_bytes, device_of}
use Rattle.image.specs.Image.{unused_zero, load_of}
use Rattle.bits.specs.Bytes.{byte}
use Rattle.bits.proofs.Bits.{halves, joined}
use Rattle.image.proofs.Loads.{read}
use Rattle.record.specs.Records.{record_bytes}
use Rattle.tape.specs.Tapes.{records, decoded}
use Rattle.checks.specs.Checks.{bad_at, first_bad_at, first_bad, result_code}
use Rattle.answer.specs.Answers.{answer_bytes}
use Rattle.tape.specs.Tapes.{tape_most}
use Rattle.events.specs.Numbers.{returned}
use Rattle.run.specs.Runs.{result_of, image_after, answers_after}
use Rattle.checks.proofs.Checks.{returned_above, uneven, too_long, bad, roomy, cramped}
use Rattle.run.proofs.Results.{by_image, by_tape}
use Rattle.demands.specs.Refusals.{ImageMarked, ImageRuled, GoodImage, GoodRecord, GoodBefore, ChecksReach, Given, image_length_wrong, image_mark_wrong, image_rule_broken, tape_length_wrong, record_mark_wrong, kind_above_7, operand_out_of_range, serial_register, answers_too_short, not_refused, EachCallHasItsRow, NoOtherRow, Ends, with_answers, with_refusal, AnsweredOrRefused, GoodImageLoads}
use Rattle.demands.proofs.Decides.{Decides, equal_decided, both_decided, not_passed, not_held}
use Rattle.demands.proofs.ByteRule.{byte_rule_is_record_rule}
use Rattle.demands.proofs.Records.{RecordRow, refuses_mark, past_mark, refuses_kind, refuses_operand, refuses_serial, record_row, good_record_has_event, meaning_is_good, record_mark_refused, kind_refused, operand_refused, serial_refused}

-- ---- an image
module _ (image : List ℕ) where
  image_mark_decided : Decides (eqb (byte image 0) 0x4D && eqb (byte image 1) 0x31) (ImageMarked image)
  image_mark_decided = both_decided _ _ (equal_decided _ _) (equal_decided _ _)

  image_rule_decided : Decides (unused_zero image && image_rule (device_of image)) (ImageRuled image)
  image_rule_decided = (λ e. (byte_rule_is_record_rule image).1 (halves _ _ e), λ r. let t = (byte_rule_is_record_rule image).0 r in joined _ _ t.0 t.1)

  image_length_refused : (length image ≡ image_bytes → ⊥) → load_of image ≡ Err ImageLength
  unfolding load_of
  image_length_refused h = rw (ne_eqb _ _ h) refl

  module _ (h : length image ≡ image_bytes) where
    image_mark_refused : (ImageMarked image → ⊥) → load_of image ≡ Err ImageMark
    unfolding load_of
    image_mark_refused f = rw (eq-eqb _ _ h, not_passed _ image_mark_decided f) refl

    image_rule_refused : ImageMarked image → (ImageRuled image → ⊥) → load_of image ≡ Err ImageRule
    unfolding load_of
    image_rule_refused m f = rw (eq-eqb _ _ h, image_mark_decided.1 m, not_passed _ image_rule_decided f) refl

  loads : GoodImage image → load_of image ≡ Ok (device_of image)
  unfolding load_of
  loads g = rw (eq-eqb _ _ g.long, image_mark_decided.1 g.marked, image_rule_decided.1 g.ruled) refl

  pub loaded_is_good : (d : Device) → load_of image ≡ Ok d → GoodImage image
  loaded_is_good d e = let r = read image d e in record { long = r.whole; marked = (r.first, r.second); ruled = (byte_rule_is_record_rule image).1 (r.unused, r.ruled) }

pub good_image_loads : GoodImageLoads
good_image_loads image = (loads image, loaded_is_good image (device_of image))

-- ---- the records' check
module _ (tape : List ℕ) where
  -- good records are passed over
  passes : (k i : ℕ) → GoodBefore tape (i + k) → first_bad tape i k ≡ Ok tt
  unfolding first_bad
  passes zero i g = refl
  passes (suc k) i g = rw ((good_record_has_event tape i).0 (g i (omega arith))).means (passes k (i + 1) (λ j h. g j (omega arith)))

  -- the first that is refused is found
  finds : (k i j : ℕ) (r : Refusal) → i ≤ j → j < i + k → GoodBefore tape j → decoded tape (j * record_bytes) ≡ Err r → first_bad tape i k ≡ bad_at r j
  unfolding first_bad
  finds zero i j r h l g p = absurd (omega arith)
  finds (suc k) i j r h l g p = go (eqb i j) refl (finds k (i + 1) j r)
    where
      go : (b : Bool) → eqb i j ≡ b → (i + 1 ≤ j → j < i + 1 + k → GoodBefore tape j → decoded tape (j * record_bytes) ≡ Err r → first_bad tape (i + 1) k ≡ bad_at r j)
          → first_bad_at (decoded tape (i * record_bytes)) i (first_bad tape (i + 1) k) ≡ bad_at r j
      go true q ih = let e : i ≡ j = eqb-true i j q in rw e (rw p refl)
      go false q ih = let f : i ≡ j → ⊥ = eqb-false i j q in rw ((good_record_has_event tape i).0 (g i (omega arith))).means (ih (omega arith) (omega arith) g p)

-- ---- no other row
module _ (image tape answers : List ℕ) where
  record_refused : (r : Refusal) (i : ℕ) → i < records tape → ChecksReach image tape i → decoded tape (i * record_bytes) ≡ Err r → returned r i ≡ result_of image tape answers
  record_refused r i h c p =
      sym (ap result_code (by_tape image tape answers (device_of image) (loads image c.good_image)
      ∙ bad tape (length answers) c.whole_records c.not_above r i (finds tape (records tape) 0 i r (omega arith) (omega arith) c.good_before p)))

  all_pass : ChecksReach image tape (records tape) → first_bad tape 0 (records tape) ≡ Ok tt
  all_pass c = passes tape (records tape) 0 (λ j h. c.good_before j (omega arith))

pub no_other_row : NoOtherRow
no_other_row image tape answers _ (image_length_wrong h) = sym (ap result_code (by_image image tape answers ImageLength (image_length_refused image h)))
no_other_row image tape answers _ (image_mark_wrong h f) = sym (ap result_code (by_image image tape answers ImageMark (image_mark_refused image h f)))
no_other_row image tape answers _ (image_rule_broken h m f) = sym (ap result_code (by_image image tape answers ImageRule (image_rule_refused image h m f)))
no_other_row image tape answers _ (tape_length_wrong g (inl f)) = sym (ap result_code (by_tape image tape answers (device_of image) (loads image g) ∙ uneven tape (length answers) f))
no_other_row image tape answers _ (tape_length_wrong g (inr h)) = sym (ap result_code (by_tape image tape answers (device_of image) (loads image g) ∙ too_long tape (length answers) h))
no_other_row image tape answers _ (record_mark_wrong i h c f) = record_refused image tape answers RecordMark i h c (record_mark_refused tape i f)
no_other_row image tape answers _ (kind_above_7 i h c m k) = record_refused image tape answers Kind i h c (kind_refused tape i m k)
no_other_row image tape answers _ (operand_out_of_range i h c m k f) = record_refused image tape answers Operand i h c (operand_refused tape i m k f)
no_other_row image tape answers _ (serial_register i h c m r s) = record_refused image tape answers Serial i h c (serial_refused tape i m r s)
no_other_row image tape answers _ (answers_too_short c h) =
    sym (ap result_code (by_tape image tape answers (device_of image) (loads image c.good_image) ∙ cramped tape (length answers) c.whole_records c.not_above (all_pass image tape answers c) h))
no_other_row image tape answers _ (not_refused c h) =
    sym (ap result_code (by_tape image tape answers (device_of image) (loads image c.good_image) ∙ roomy tape (length answers) c.whole_records c.not_above (all_pass image tape answers c) h))

-- ---- every call has its row
-- of a tape's first n records, the first that is refused
data FirstRefused (tape : List ℕ) (n : ℕ) : Type 0 where
  nowhere : GoodBefore tape n → FirstRefused tape n
  here : (i : ℕ) → i < n → GoodBefore tape i → {r : Refusal} → RecordRow tape i (Err r) → FirstRefused tape n

refused_first : (tape : List ℕ) (n : ℕ) → FirstRefused tape n
refused_first tape zero = nowhere (λ j h. absurd (omega arith))
refused_first tape (suc n) = go (refused_first tape n) (decoded tape (n * record_bytes)) refl
  where
    one_more : GoodBefore tape n → GoodRecord tape n → GoodBefore tape (suc n)
    one_more f g j h = by_place (eqb j n) refl
      where
        by_place : (b : Bool) → eqb j n ≡ b → GoodRecord tape j
        by_place true e = rw (eqb-true j n e) g
        by_place false e = let u : j ≡ n → ⊥ = eqb-false j n e in f j (omega arith)

    go : FirstRefused tape n → (d : Result Event Refusal) → decoded tape (n * record_bytes) ≡ d → FirstRefused tape (suc n)
    go (here i h f r) d p = here i (omega arith) f r
    go (nowhere f) (Ok e) p = nowhere (one_more f (meaning_is_good tape n e p))
    go (nowhere f) (Err r) p = here n (omega arith) f (rw p at (record_row tape n))

module _ (image tape : List ℕ) (room : ℕ) where
  abbrev SomeRow : Type 0
  SomeRow = (n : ℕ) × Given image tape room n

  by_record : (i : ℕ) → i < records tape → ChecksReach image tape i → {r : Refusal} → RecordRow tape i (Err r) → SomeRow
  by_record i h c (refuses_mark f) = (_, record_mark_wrong i h c f)
  by_record i h c (past_mark m (refuses_kind k)) = (_, kind_above_7 i h c m k)
  by_record i h c (past_mark m (refuses_operand k f)) = (_, operand_out_of_range i h c m k f)
  by_record i h c (past_mark m (refuses_serial r s)) = (_, serial_register i h c m r s)

  by_room : (b : Bool) → leb (answer_bytes * records tape) room ≡ b → ChecksReach image tape (records tape) → SomeRow
  by_room true e c = (_, not_refused c (leb-true _ _ e))
  by_room false e c = (_, answers_too_short c (leb-false _ _ e))

  by_records : FirstRefused tape (records tape) → ((i : ℕ) → GoodBefore tape i → ChecksReach image tape i) → SomeRow
  by_records (nowhere f) c = by_room (leb (answer_bytes * records tape) room) refl (c (records tape) f)
  by_records (here i h f r) c = by_record i h (c i f) r

  by_length : (b c : Bool) → eqb (length tape % record_bytes) 0 ≡ b → leb (length tape) tape_most ≡ c → GoodImage image → SomeRow
  by_length true true e f g = by_records (refused_first tape (records tape)) (λ i p. record { good_image = g; whole_records = eqb-true _ _ e; not_above = leb-true _ _ f; good_before = p })
  by_length true false e f g = (_, tape_length_wrong g (inr (leb-false _ _ f)))
  by_length false c e f g = (_, tape_length_wrong g (inl (eqb-false _ _ e)))

  by_image_tests : (l m r : Bool) → eqb (length image) image_bytes ≡ l → (eqb (byte image 0) 0x4D && eqb (byte image 1) 0x31) ≡ m → (unused_zero image && image_rule (device_of image)) ≡ r → SomeRow
  by_image_tests true true true e f g =
      by_length (eqb (length tape % record_bytes) 0) (leb (length tape) tape_most) refl refl (record { long = eqb-true _ _ e; marked = (image_mark_decided image).0 f; ruled = (image_rule_decided image).0 g })
  by_image_tests true true false e f g = (_, image_rule_broken (eqb-true _ _ e) ((image_mark_decided image).0 f) (not_held _ (image_rule_decided image) g))
  by_image_tests true false r e f g = (_, image_mark_wrong (eqb-true _ _ e) (not_held _ (image_mark_decided image) f))
  by_image_tests false m r e f g = (_, image_length_wrong (eqb-false _ _ e))

  some_row : SomeRow
  some_row = by_image_tests (eqb (length image) image_bytes) (eqb (byte image 0) 0x4D && eqb (byte image 1) 0x31) (unused_zero image && image_rule (device_of image)) refl refl refl

pub each_call_has_its_row : EachCallHasItsRow
each_call_has_its_row image tape answers = let r = some_row image tape (length answers) in subst (Given image tape (length answers)) (no_other_row image tape answers r.0 r.1) r.1

-- ---- its answers or a refusal
module _ (image tape : List ℕ) (room : ℕ) where
  -- the checks that an answered call has passed
  pub record PassedAll : Type 0 where
    pub checks : ChecksReach image tape (records tape)
    pub roomy : answer_bytes * records tape ≤ room

  -- what a row says of its number
  data RowNumber : ℕ → Type 0 where
    no_refusal : PassedAll → RowNumber 0
    refusal_number : (r : Refusal) (i : ℕ) → RowNumber (returned r i)

  row_number : {n : ℕ} → Given image tape room n → RowNumber n
  row_number (image_length_wrong h) = refusal_number ImageLength 0
  row_number (image_mark_wrong h f) = refusal_number ImageMark 0
  row_number (image_rule_broken h m f) = refusal_number ImageRule 0
  row_number (tape_length_wrong g f) = refusal_number TapeLength 0
  row_number (record_mark_wrong i h c f) = refusal_number RecordMark i
  row_number (kind_above_7 i h c m k) = refusal_number Kind i
  row_number (operand_out_of_range i h c m k f) = refusal_number Operand i
  row_number (serial_register i h c m r s) = refusal_number Serial i
  row_number (answers_too_short c h) = refusal_number AnswerLength 0
  row_number (not_refused c h) = no_refusal (record { checks = c; roomy = h })

module _ (image tape answers : List ℕ) where
  ends : {n : ℕ} → RowNumber image tape (length answers) n → Given image tape (length answers) n → n ≡ result_of image tape answers → Ends image tape answers n (image_after image tape answers) (answers_after image tape answers)
  unfolding image_after answers_after
  ends (no_refusal p) g e = rw (eq-eqb _ _ (sym e)) (with_answers g)
  ends (refusal_number r i) g e =
      rw (ne_eqb (result_of image tape answers) 0 (λ z. returned_above r i (e ∙ z))) (with_refusal (returned_above r i) g)

  passed_all : {n : ℕ} → RowNumber image tape (length answers) n → n ≡ 0 → PassedAll image tape (length answers)
  passed_all (no_refusal p) e = p
  passed_all (refusal_number r i) e = absurd (returned_above r i e)

  pub an_answered_call_passed_all : result_of image tape answers ≡ 0 → PassedAll image tape (length answers)
  an_answered_call_passed_all e = passed_all (row_number image tape (length answers) (each_call_has_its_row image tape answers)) e

  pub passed_all_is_answered : PassedAll image tape (length answers) → result_of image tape answers ≡ 0
  passed_all_is_answered p = sym (no_other_row image tape answers 0 (not_refused p.checks p.roomy))

pub answered_or_refused : AnsweredOrRefused
answered_or_refused image tape answers = let g = each_call_has_its_row image tape answers in ends image tape answers (row_number image tape (length answers) g) g refl
