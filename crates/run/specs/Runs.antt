-- Document 01, "Tape and answers": a whole run, and the refusals in their order.
use Rattle.events.specs.declared.Refusal.{Refusal}
use Rattle.std.specs.Prelude.{Ok, Err, ℕ, ◌*◌, cond, List, [], ◌∷◌, ◌++◌, eqb, length, drop, Result}
use Rattle.device.specs.declared.Device.{Device}
use Rattle.events.specs.declared.Event.{Event}
use Rattle.events.specs.declared.RefusedAt.{RefusedAt}
use Rattle.step.specs.Events.{step_of}
use Rattle.layout.specs.Layout.{image_of, device_of}
use Rattle.image.specs.Image.{load_of}
use Rattle.answer.specs.Answers.{answer_bytes, answer_of}
use Rattle.tape.specs.Tapes.{records, events_of}
use Rattle.checks.specs.Checks.{bad_at, checked, result_code}

-- ---- events one after the other
unfoldable pub run_of : Device → List Event → Device
run_of d [] = d
run_of d (e ∷ es) = run_of (step_of d e).device es

-- their answers
unfoldable pub answers_of : Device → List Event → List ℕ
answers_of d [] = []
answers_of d (e ∷ es) = answer_of (step_of d e) ++ answers_of (step_of d e).device es

-- ---- the refusals
-- "Checks run 1 to 4, then 5 to 8 for each record in tape order, then 9."
abbrev pub after_image : Result Device Refusal → List ℕ → ℕ → Result (Unit {0}) RefusedAt
after_image (Err r) tape room = bad_at r 0
after_image (Ok d) tape room = checked tape room

-- what a call with an image, a tape and an answer buffer comes to
unfoldable pub outcome_of : List ℕ → List ℕ → List ℕ → Result (Unit {0}) RefusedAt
outcome_of image tape answers = after_image (load_of image) tape (length answers)

-- and what the C call returns
abbrev pub result_of : List ℕ → List ℕ → List ℕ → ℕ
result_of image tape answers = result_code (outcome_of image tape answers)

-- ---- the buffers at exit
-- "Every refusal leaves image [..] and answer buffer unchanged. Success writes the image and the first 22 × records answer bytes only."
unfoldable pub image_after : List ℕ → List ℕ → List ℕ → List ℕ
image_after image tape answers = cond (eqb (result_of image tape answers) 0) (image_of (run_of (device_of image) (events_of tape))) image

unfoldable pub answers_after : List ℕ → List ℕ → List ℕ → List ℕ
answers_after image tape answers =
    cond (eqb (result_of image tape answers) 0)
    (answers_of (device_of image) (events_of tape) ++ drop (answer_bytes * records tape) answers)
    answers
