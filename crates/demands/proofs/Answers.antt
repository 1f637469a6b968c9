-- An answered call, record by record: the device before each record, and each record's answer. Assumes nothing.
use Rattle.std.specs.Prelude.{Result}
use Rattle.events.specs.declared.Refusal.{Refusal}
use Prim.Native.Nat.{ℕ, zero, suc, ◌+◌, ◌-◌, ◌*◌, ◌<◌}
use mathlib.Core.Path.{◌≡◌, refl, sym, ap, ◌∙◌}
use mathlib.Core.List.{List, [], ◌∷◌, ◌++◌, append_assoc}
use native.Mathlib.Nat.{zero-add}
use native.Mathlib.Omega.{arith}
use lib.ListN.{length, take, drop, length-append}
use lib.Seq.{take_at, drop_at}
use borrow.Author.Tests.{eq-eqb}
use Rattle.device.specs.declared.Device.{Device}
use Rattle.events.specs.declared.Event.{Event}
use Rattle.device.specs.declared.Stepped.{Stepped}
use Rattle.step.specs.Events.{step_of}
use Rattle.layout.specs.Layout.{image_of, device_of}
use Rattle.record.specs.Records.{record_bytes}
use Rattle.tape.specs.Tapes.{decoded, records, events_at, events, events_of}
use Rattle.answer.specs.Answers.{answer_bytes, answer_of}
use Rattle.run.specs.Runs.{run_of, answers_of, result_of, image_after, answers_after}
use Rattle.demands.specs.Refusals.{GoodBefore, RecordMeans, HasEvent}
use Rattle.demands.specs.Tapes.{device_before, answer_to}
use Rattle.demands.proofs.Clocks.{run_parts, answer_parts}
use Rattle.demands.proofs.Records.{good_record_has_event}
use Rattle.demands.proofs.Refusals.{an_answered_call_passed_all}
use Rattle.demands.proofs.TapeParts.{events_join}

-- ---- the device along a tape
-- after j records and k more
pub device_parts : (image tape : List ℕ) (j k : ℕ) → device_before image tape (j + k) ≡ run_of (device_before image tape j) (events tape j k)
device_parts image tape j k =
    ap (run_of (device_of image)) (events_join tape j k 0)
    ∙ run_parts (device_of image) (events tape 0 j) (events tape (0 + j) k)
    ∙ ap (λ (x : ℕ). run_of (device_before image tape j) (events tape x k)) (zero-add j)

pub device_next : (image tape : List ℕ) (i : ℕ) (e : Event) → RecordMeans tape i e → device_before image tape (i + 1) ≡ (step_of (device_before image tape i) e).device
unfolding run_of events
device_next image tape i e p = device_parts image tape i 1 ∙ ap (λ (d : Result Event Refusal). run_of (device_before image tape i) (events_at d [])) p

-- ---- the answers along a tape
-- good records have an event each, and each event has an answer of its length
events_long : (tape : List ℕ) (k i : ℕ) → GoodBefore tape (i + k) → length (events tape i k) ≡ k
unfolding events
events_long tape zero i g = refl
events_long tape (suc k) i g = rw ((good_record_has_event tape i).0 (g i (omega arith))).means (ap suc (events_long tape k (i + 1) (λ j h. g j (omega arith))))

answers_long : (d : Device) (es : List Event) → length (answers_of d es) ≡ answer_bytes * length es
unfolding answers_of answer_of
answers_long d [] = refl
answers_long d (e ∷ es) = omega (arith, length-append (answer_of (step_of d e)) (answers_of (step_of d e).device es), answers_long (step_of d e).device es)

-- ---- what an answered call leaves
module _ (image tape answers : List ℕ) (ok : result_of image tape answers ≡ 0) where
  pub image_left : image_after image tape answers ≡ image_of (device_before image tape (records tape))
  unfolding image_after
  image_left = rw (eq-eqb _ _ ok) refl

  -- the answer to a record is that of its event at the device before it
  module _ (i : ℕ) (h : i < records tape) (e : Event) (p : RecordMeans tape i e) where
    abbrev here : Stepped
    here = step_of (device_before image tape i) e

    abbrev rest : List Event
    rest = events tape (i + 1) (records tape - (i + 1))

    parts : events_of tape ≡ events tape 0 i ++ (e ∷ rest)
    unfolding events
    parts =
        ap (events tape 0) (let q : records tape ≡ i + suc (records tape - (i + 1)) = omega arith in q)
        ∙ events_join tape i (suc (records tape - (i + 1))) 0
        ∙ ap (λ (x : ℕ). events tape 0 i ++ events tape x (suc (records tape - (i + 1)))) (zero-add i)
        ∙ ap (λ (d : Result Event Refusal). events tape 0 i ++ events_at d rest) p

    abbrev front : List ℕ
    front = answers_of (device_of image) (events tape 0 i)

    front_long : length front ≡ answer_bytes * i
    front_long = answers_long (device_of image) (events tape 0 i) ∙ ap (λ (k : ℕ). answer_bytes * k) (events_long tape i 0 (λ j l. (an_answered_call_passed_all image tape answers ok).checks.good_before j (omega arith)))

    abbrev back : List ℕ
    back = answers_of here.device rest ++ drop (answer_bytes * records tape) answers

    answers_split : answers_after image tape answers ≡ front ++ (answer_of here ++ back)
    unfolding answers_after answers_of
    answers_split =
        rw (eq-eqb _ _ ok)
        (ap (λ (a : List ℕ). a ++ drop (answer_bytes * records tape) answers) (ap (answers_of (device_of image)) parts ∙ answer_parts (device_of image) (events tape 0 i) (e ∷ rest))
        ∙ append_assoc front (answer_of here ++ answers_of here.device rest) (drop (answer_bytes * records tape) answers)
        ∙ ap (λ (a : List ℕ). front ++ a) (append_assoc (answer_of here) (answers_of here.device rest) (drop (answer_bytes * records tape) answers)))

    pub answer_left : answer_to image tape answers i ≡ answer_of here
    unfolding answer_of
    answer_left =
        ap (λ (a : List ℕ). take answer_bytes (drop (answer_bytes * i) a)) answers_split
        ∙ ap (take answer_bytes) (drop_at front (answer_of here ++ back) (answer_bytes * i) front_long)
        ∙ take_at (answer_of here) back answer_bytes refl

-- records that mean the same at the same device have the same answer, in two calls too
pub answers_agree : (image tape answers image' tape' answers' : List ℕ) → result_of image tape answers ≡ 0 → result_of image' tape' answers' ≡ 0 → (i j : ℕ) → i < records tape → j < records tape' → decoded tape (i * record_bytes) ≡ decoded tape' (j * record_bytes) → device_before image tape i ≡ device_before image' tape' j → answer_to image tape answers i ≡ answer_to image' tape' answers' j
answers_agree image tape answers image' tape' answers' ok ok' i j h l p q =
    let s : HasEvent tape' j = (good_record_has_event tape' j).0 ((an_answered_call_passed_all image' tape' answers' ok').checks.good_before j l) in
    answer_left image tape answers ok i h s.event (p ∙ s.means)
    ∙ ap (λ (d : Device). answer_of (step_of d s.event)) q
    ∙ sym (answer_left image' tape' answers' ok' j l s.event s.means)
