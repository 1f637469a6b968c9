-- A tape's events are such as keep the image rule, and a device that keeps it is what its image loads as. Assumes nothing.
use Rattle.std.specs.Prelude.{Result, Ok, Err}
use Rattle.events.specs.declared.Refusal.{Refusal}
use Rattle.events.specs.declared.Event.{Event}
use Prim.Native.Nat.{ℕ, zero, suc, ◌+◌, ◌*◌}
use mathlib.Core.Path.{◌≡◌, refl}
use mathlib.Core.Bool.{true}
use mathlib.Core.List.{List, [], ◌∷◌}
use native.Mathlib.Omega.{arith}
use lib.Dec.{lit≤}
use borrow.Author.Tests.{eq-eqb}
use Rattle.timer.specs.Timers.{position_rule}
use Rattle.channels.specs.Channels.{has}
use Rattle.interrupts.specs.Interrupts.{S, interrupt_rule}
use Rattle.timers.specs.Registers.{timer_rule, timers_rule}
use Rattle.device.specs.Whole.{fresh_device, image_rule}
use Rattle.step.specs.Events.{step_of}
use Rattle.layout.specs.Layout.{image_of, device_of}
use Rattle.record.specs.Records.{record_bytes}
use Rattle.tape.specs.Tapes.{decoded, records, events_at, events, events_of}
use Rattle.run.specs.Runs.{run_of, answers_of, result_of, image_after, answers_after}
use Rattle.demands.specs.Accepted.{AllBytes, ATapeWritesBytes, ARunKeepsTheRule, AnAnsweredCallLeavesAnAcceptedImage, FreshAccepted, EmptyTapeAnswered}
use Rattle.demands.proofs.Rule.{every_event_keeps_the_rule}
use Rattle.demands.proofs.Images.{load_of_save, save_of_load}
use Rattle.demands.proofs.ByteRule.{byte_rule_is_record_rule}
use Rattle.demands.proofs.Records.{RecordRow, record_row, bytes_of}
use Rattle.demands.proofs.Refusals.{loaded_is_good, good_image_loads, an_answered_call_passed_all, passed_all_is_answered}

-- ---- after an answered call
records_write_bytes : (tape : List ℕ) (k i : ℕ) → AllBytes (events tape i k)
unfolding events
records_write_bytes tape zero i = tt
records_write_bytes tape (suc k) i = go (decoded tape (i * record_bytes)) (record_row tape i) (records_write_bytes tape k (i + 1))
  where
    go : (d : Result Event Refusal) → RecordRow tape i d → AllBytes (events tape (i + 1) k) → AllBytes (events_at d (events tape (i + 1) k))
    go (Ok e) r later = (bytes_of r, later)
    go (Err x) r later = later

pub a_tape_writes_bytes : ATapeWritesBytes
a_tape_writes_bytes tape = records_write_bytes tape (records tape) 0

pub a_run_keeps_the_rule : ARunKeepsTheRule
unfolding run_of
a_run_keeps_the_rule d [] b r = r
a_run_keeps_the_rule d (e ∷ es) b r = a_run_keeps_the_rule (step_of d e).device es b.1 (every_event_keeps_the_rule d e b.0 r)

pub an_answered_call_leaves_an_accepted_image : AnAnsweredCallLeavesAnAcceptedImage
unfolding image_after
an_answered_call_leaves_an_accepted_image image tape answers ok =
    rw (eq-eqb _ _ ok)
    (load_of_save (run_of (device_of image) (events_of tape))
    (a_run_keeps_the_rule (device_of image) (events_of tape) (a_tape_writes_bytes tape) ((byte_rule_is_record_rule image).0 (an_answered_call_passed_all image tape answers ok).checks.good_image.ruled).1))

-- ---- the least image and the least tape
pub fresh_keeps_the_rule : image_rule fresh_device ≡ true
unfolding image_rule fresh_device interrupt_rule timers_rule timer_rule position_rule S has
fresh_keeps_the_rule = refl

pub fresh_accepted : FreshAccepted
fresh_accepted = let l = load_of_save fresh_device fresh_keeps_the_rule in (loaded_is_good (image_of fresh_device) fresh_device l, l, fresh_keeps_the_rule)

pub empty_tape_answered : EmptyTapeAnswered
unfolding image_after answers_after run_of answers_of events
empty_tape_answered image answers g b = (ok, rw (eq-eqb _ _ ok) (save_of_load image (device_of image) b ((good_image_loads image).0 g)), rw (eq-eqb _ _ ok) refl)
  where
    ok : result_of image [] answers ≡ 0
    ok = passed_all_is_answered image [] answers (record { checks = record { good_image = g; whole_records = refl; not_above = lit≤ tt; good_before = λ j h. absurd (omega arith) }; roomy = omega arith })
