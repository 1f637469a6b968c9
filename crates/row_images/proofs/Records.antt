-- The run of no record on an image, and that of an acknowledge's record. Assumes nothing.
use Rattle.std.proofs.Common.{Err}
use Rattle.device.specs.declared.Device.{Device}
use Rattle.std.specs.Prelude.{Result, Ok}
use Prim.Native.Nat.{ℕ, ◌≤◌}
use mathlib.Core.Path.{◌≡◌, refl, ap, ◌∙◌}
use mathlib.Core.Bool.{Bool, true, false}
use mathlib.Core.List.{List, [], ◌∷◌, ◌++◌}
use native.Mathlib.Omega.{arith}
use lib.ListN.{length, get_or, drop}
use Rattle.bits.specs.Bytes.{number}
use Rattle.events.specs.declared.Event.{Event}
use Rattle.events.specs.declared.Event.TheVariants.{Acknowledge}
use Rattle.events.specs.declared.Refusal.{Refusal}
use Rattle.events.specs.declared.Answer.TheVariants.{Vector, PassedOn, Held}
use Rattle.events.specs.Numbers.{class_of, value_of}
use Rattle.requests.specs.declared.Reply.{Reply}
use Rattle.requests.specs.declared.Reply.TheVariants.{Vector as GivenVector, PassedOn as GivenOn, Held as GivenHeld}
use Rattle.requests.specs.Requests.{acknowledged}
use Rattle.step.specs.Events.{effect_of, replied}
use Rattle.layout.specs.Layout.{image_of, device_of}
use Rattle.image.specs.Image.{load_of}
use Rattle.record.specs.Records.{meant, event_of}
use Rattle.answer.specs.Answers.{answer_bytes, answer_of}
use Rattle.tape.specs.Tapes.{decoded, events_at, events, events_of}
use Rattle.checks.specs.Checks.{first_bad_at, first_bad}
use Rattle.checks.proofs.Checks.{roomy}
use Rattle.checks.proofs.Walk.{check_none}
use Rattle.run.specs.Runs.{run_of, answers_of, after_image, outcome_of, image_after, answers_after}
use Rattle.row_images.specs.RowImages.{refused_at}
use Rattle.row_images.specs.Private.{acknowledge_record, stepped}

-- ---- no record
-- a tape of none is not refused, so its run is refused exactly where the image is
pub of_none : (image answers : List ℕ) → outcome_of image [] answers ≡ refused_at (load_of image) 0 (Ok tt)
unfolding outcome_of
of_none image answers = go (load_of image)
  where
    go : (l : Result Device Refusal) → after_image l [] (length answers) ≡ refused_at l 0 (Ok tt)
    go (Ok d) = roomy [] (length answers) refl (omega arith) (check_none [] 0) (omega arith)
    go (Err r) = refl

-- ---- an acknowledge
-- its record means it, passes the check, and is the tape's one event
means : (iei : Bool) → decoded (acknowledge_record iei) 0 ≡ Ok (Acknowledge iei)
unfolding decoded meant event_of number
means true = refl
means false = refl

fine : (iei : Bool) → first_bad (acknowledge_record iei) 0 1 ≡ Ok tt
unfolding first_bad
fine iei = ap (λ (d : Result Event Refusal). first_bad_at d 0 (Ok tt)) (means iei)

event : (iei : Bool) → events_of (acknowledge_record iei) ≡ Acknowledge iei ∷ []
unfolding events
event iei = ap (λ (d : Result Event Refusal). events_at d []) (means iei)

module _ (image answers : List ℕ) (iei : Bool) (e : load_of image ≡ Ok (device_of image)) (room : answer_bytes ≤ length answers) where
  ok : outcome_of image (acknowledge_record iei) answers ≡ Ok tt
  unfolding outcome_of
  ok = ap (λ (l : Result Device Refusal). after_image l (acknowledge_record iei) (length answers)) e ∙ roomy (acknowledge_record iei) (length answers) refl (omega arith) (fine iei) room

  -- the image is that of the device after it
  pub image_is : image_after image (acknowledge_record iei) answers ≡ image_of (stepped image iei).device
  unfolding image_after run_of
  image_is = rw ok (ap (λ (es : List Event). image_of (run_of (device_of image) es)) (event iei))

  answers_are : answers_after image (acknowledge_record iei) answers ≡ (answer_of (stepped image iei) ++ []) ++ drop answer_bytes answers
  unfolding answers_after answers_of
  answers_are = rw ok (ap (λ (es : List Event). answers_of (device_of image) es ++ drop answer_bytes answers) (event iei))

  -- bytes 2 and 3 of its answer are class and value
  pub class_is : get_or (answers_after image (acknowledge_record iei) answers) 2 0 ≡ class_of (stepped image iei).answer
  unfolding answer_of
  class_is = ap (λ (a : List ℕ). get_or a 2 0) answers_are

  pub value_is : get_or (answers_after image (acknowledge_record iei) answers) 3 0 ≡ value_of (stepped image iei).answer
  unfolding answer_of
  value_is = ap (λ (a : List ℕ). get_or a 3 0) answers_are

-- class and value tell the answer: a vector, passed on or held
pub heard : (image : List ℕ) (iei : Bool) → (stepped image iei).answer ≡ replied (acknowledged iei (device_of image).interrupts).reply
unfolding effect_of
heard image iei = refl

pub is_vector : (r : Reply) (class value : ℕ) → class ≡ class_of (replied r) → value ≡ value_of (replied r) → class ≡ 2 → Vector value ≡ replied r
is_vector (GivenVector v) class value c w e = ap Vector w
is_vector GivenOn class value c w e = absurd (omega arith)
is_vector GivenHeld class value c w e = absurd (omega arith)

pub is_passed : (r : Reply) (class : ℕ) → class ≡ class_of (replied r) → class ≡ 3 → PassedOn ≡ replied r
is_passed (GivenVector v) class c e = absurd (omega arith)
is_passed GivenOn class c e = refl
is_passed GivenHeld class c e = absurd (omega arith)

pub is_held : (r : Reply) (class : ℕ) → class ≡ class_of (replied r) → (class ≡ 2 → ⊥) → (class ≡ 3 → ⊥) → Held ≡ replied r
is_held (GivenVector v) class c e f = absurd (e c)
is_held GivenOn class c e f = absurd (f c)
is_held GivenHeld class c e f = refl
