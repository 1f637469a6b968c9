-- `row_images::acknowledge_image` meets its contract: the run of one record, and its answer heard. Assumes nothing.
use Rattle.std.proofs.Common.{Ok, List, ℕ, Bool, ◌≡◌, ◌≤◌, length, get_or, sym, ap, ◌∙◌, arith}
use Rattle.answer.specs.Answers.{answer_bytes}
use Rattle.events.specs.Numbers.{class_of, value_of}
use Rattle.image.specs.Image.{load_of}
use Rattle.layout.specs.Layout.{image_of, device_of}
use Rattle.requests.specs.Requests.{acknowledged}
use Rattle.run.specs.Runs.{image_after, answers_after}
use Rattle.row_images.specs.Private.{acknowledge_record, stepped}
use Rattle.row_images.proofs.Records.{image_is, class_is, value_is, heard, is_vector, is_passed, is_held}
use Rattle.row_images.proofs.acknowledge_image.Goals as goal

-- what the run leaves: class and value of the answer, and the image
record Left (image : List ℕ) (iei : Bool) (image' answers' : List ℕ) : Type 0 where
  class : get_or answers' 2 0 ≡ class_of (stepped image iei).answer
  value : get_or answers' 3 0 ≡ value_of (stepped image iei).answer
  written : image' ≡ image_of (stepped image iei).device

left : (image : List ℕ) (iei : Bool) (tape answers image' answers' : List ℕ) → load_of image ≡ Ok (device_of image) → answer_bytes ≤ length answers → tape ≡ acknowledge_record iei
    → image' ≡ image_after image tape answers → answers' ≡ answers_after image tape answers → Left image iei image' answers'
left image iei tape answers image' answers' e room t f g = record {
  class = ap (λ (x : List ℕ). get_or x 2 0) (g ∙ ap (λ (x : List ℕ). answers_after image x answers) t) ∙ class_is image answers iei e room;
  value = ap (λ (x : List ℕ). get_or x 3 0) (g ∙ ap (λ (x : List ℕ). answers_after image x answers) t) ∙ value_is image answers iei e room;
  written = f ∙ ap (λ (x : List ℕ). image_after image x answers) t ∙ image_is image answers iei e room;
}

pub returns-in-2 : goal.returns-in-2
returns-in-2 c =
    let a = c.args in
    let e = c.run.ensures in
    let l = left a.image.now a.iei _ _ _ _ c.requires (omega arith) c.acknowledge_record.ensures e.1 e.2 in
    (is_vector (acknowledged a.iei (device_of a.image.now).interrupts).reply _ _ (l.class ∙ ap class_of (heard _ _)) (l.value ∙ ap value_of (heard _ _)) c.in-2.is ∙ sym (heard _ _), l.written)

pub returns-in-3 : goal.returns-in-3
returns-in-3 c =
    let a = c.args in
    let e = c.run.ensures in
    let l = left a.image.now a.iei _ _ _ _ c.requires (omega arith) c.acknowledge_record.ensures e.1 e.2 in
    (is_passed (acknowledged a.iei (device_of a.image.now).interrupts).reply _ (l.class ∙ ap class_of (heard _ _)) c.in-3.is ∙ sym (heard _ _), l.written)

pub returns-in_default : goal.returns-in_default
returns-in_default c =
    let a = c.args in
    let e = c.run.ensures in
    let l = left a.image.now a.iei _ _ _ _ c.requires (omega arith) c.acknowledge_record.ensures e.1 e.2 in
    (is_held (acknowledged a.iei (device_of a.image.now).interrupts).reply _ (l.class ∙ ap class_of (heard _ _)) (λ z. omega arith) (λ z. omega arith) ∙ sym (heard _ _), l.written)
