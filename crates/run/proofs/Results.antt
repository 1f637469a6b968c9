-- The whole call: refused, all is as it came; done, the image and the answers are the run's. Assumes nothing.
use Rattle.std.specs.Prelude.{Result, Ok, Err}
use Prim.Native.Nat.{ℕ, ◌*◌}
use mathlib.Core.Path.{◌≡◌, refl, sym, ap, ap₂, ◌∙◌}
use mathlib.Core.Bool.{false}
use mathlib.Core.List.{List, ◌++◌}
use native.Mathlib.Nat.{mul_comm}
use lib.Dec.{eqb}
use lib.ListN.{length, drop}
use borrow.Author.Tests.{eq-eqb, ne_eqb}
use Rattle.device.specs.declared.Device.{Device}
use Rattle.events.specs.declared.Refusal.{Refusal}
use Rattle.layout.specs.Layout.{image_of}
use Rattle.image.specs.Image.{load_of, stored_over}
use Rattle.image.proofs.Loads.{Read, read}
use Rattle.tape.specs.Tapes.{records, events_of}
use Rattle.events.specs.declared.RefusedAt.{RefusedAt}
use Rattle.checks.specs.Checks.{bad_at, checked, result_code, tape_result}
use Rattle.answer.specs.Answers.{answer_bytes}
use Rattle.checks.proofs.Checks.{returned_above, nothing_refused}
use Rattle.run.specs.Runs.{run_of, answers_of, after_image, outcome_of, result_of, image_after, answers_after}

module _ (image tape answers : List ℕ) where
  pub by_image : (r : Refusal) → load_of image ≡ Err r → outcome_of image tape answers ≡ bad_at r 0
  unfolding outcome_of
  by_image r e = ap (λ (l : Result Device Refusal). after_image l tape (length answers)) e

  pub by_tape : (d : Device) → load_of image ≡ Ok d → outcome_of image tape answers ≡ checked tape (length answers)
  unfolding outcome_of
  by_tape d e = ap (λ (l : Result Device Refusal). after_image l tape (length answers)) e

  -- "Every refusal leaves image [..] and answer buffer unchanged."
  pub all_kept : (e : RefusedAt) {o : Result (Unit {0}) RefusedAt} → o ≡ Err e → outcome_of image tape answers ≡ Err e
      → (o ≡ outcome_of image tape answers) × (image ≡ image_after image tape answers) × (answers ≡ answers_after image tape answers)
  unfolding image_after answers_after
  all_kept e p q = (p ∙ sym q, rw no refl, rw no refl)
    where
      no : eqb (result_of image tape answers) 0 ≡ false
      no = ne_eqb _ _ (λ z. returned_above e.refusal e.index (sym (ap result_code q) ∙ z))

  -- and so of one whose code is not 0
  pub refused : (n : ℕ) → n ≡ result_of image tape answers → (n ≡ 0 → ⊥)
      → (n ≡ result_of image tape answers) × (image ≡ image_after image tape answers) × (answers ≡ answers_after image tape answers)
  unfolding image_after answers_after
  refused n e h = let no = ne_eqb _ _ (λ z. h (e ∙ z)) in (e, rw no refl, rw no refl)

  -- "Success writes the image and the first 22 × records answer bytes only."
  pub all_written : (d : Device) (image' answers' : List ℕ) → load_of image ≡ Ok d → checked tape (length answers) ≡ Ok tt
      → image' ≡ stored_over (run_of d (events_of tape)) image
      → answers' ≡ answers_of d (events_of tape) ++ drop (records tape * answer_bytes) answers
      → (Ok tt ≡ outcome_of image tape answers) × (image' ≡ image_after image tape answers) × (answers' ≡ answers_after image tape answers)
  unfolding image_after answers_after stored_over
  all_written d image' answers' e z f g = (
    sym ok,
    f ∙ rw (ok, eq-eqb _ _ shown.whole) (ap (λ (x : Device). image_of (run_of x (events_of tape))) shown.is),
    g ∙ rw ok (ap₂ (λ (x : Device) (k : ℕ). answers_of x (events_of tape) ++ drop k answers) shown.is (mul_comm (records tape) answer_bytes)),
  )
    where
      shown : Read image d
      shown = read image d e

      ok : outcome_of image tape answers ≡ Ok tt
      ok = by_tape d e ∙ z

  -- and so of a tape whose code is 0
  pub done : (d : Device) (image' answers' : List ℕ) → load_of image ≡ Ok d → tape_result tape (length answers) ≡ 0
      → image' ≡ stored_over (run_of d (events_of tape)) image
      → answers' ≡ answers_of d (events_of tape) ++ drop (records tape * answer_bytes) answers
      → (0 ≡ result_of image tape answers) × (image' ≡ image_after image tape answers) × (answers' ≡ answers_after image tape answers)
  done d image' answers' e z f g = let w = all_written d image' answers' e (nothing_refused _ z) f g in (ap result_code w.0, w.1, w.2)
