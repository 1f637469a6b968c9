-- Demand 3: "Advancing an accepted device by n clocks in one event [..] leaves the very device that n single clocks of document 01's rules leave, and reports for each timer how many timeouts those clocks made. So on any accepted tape, neighbouring clock events [..] may be joined, or one cut".
-- Here of events, proved in proofs/Clocks.antt; specs/Tapes.antt says it of tapes of bytes.
use Rattle.std.specs.Prelude.{ℕ, ◌+◌, ◌≡◌, List, [], ◌∷◌, ◌++◌, replicate}
use Rattle.timeouts.specs.declared.Timeouts.{Timeouts}
use Rattle.device.specs.declared.Device.{Device}
use Rattle.events.specs.declared.Event.{Event}
use Rattle.events.specs.declared.Event.TheVariants.{Clocks}
use Rattle.device.specs.declared.Stepped.{Stepped}
use Rattle.events.specs.declared.Answer.TheVariants.{Done}
use Rattle.timeouts.specs.Clocks.{none, add_timeouts}
use Rattle.step.specs.Clocks.{clocks_device, timeouts_device}
use Rattle.step.specs.Events.{step_of}
use Rattle.answer.specs.Answers.{answer_of}
use Rattle.run.specs.Runs.{run_of, answers_of}

-- ---- one event of n clocks
-- it is n single clocks, and its counts are their reloads
abbrev pub NClocks : Type 0
NClocks = (d : Device) (n : ℕ) → step_of d (Clocks n) ≡ record { device = clocks_device n d; answer = Done; timeouts = timeouts_device n d }

-- so n events of one clock leave the device that one event of n clocks leaves
abbrev pub SingleClocks : Type 0
SingleClocks = (d : Device) (n : ℕ) → run_of d (replicate n (Clocks 1)) ≡ (step_of d (Clocks n)).device

-- and the timeouts of those n events add up to its counts
unfoldable pub timeouts_of : Device → List Event → Timeouts
timeouts_of d [] = none
timeouts_of d (e ∷ es) = add_timeouts (step_of d e).timeouts (timeouts_of (step_of d e).device es)

abbrev pub SingleClocksCounts : Type 0
SingleClocksCounts = (d : Device) (n : ℕ) → timeouts_of d (replicate n (Clocks 1)) ≡ (step_of d (Clocks n)).timeouts

-- ---- m clocks and then n are m + n
abbrev pub ClocksJoin : Type 0
ClocksJoin = (m n : ℕ) (d : Device) → clocks_device n (clocks_device m d) ≡ clocks_device (m + n) d

-- and their counts add up
abbrev pub ClocksJoinCounts : Type 0
ClocksJoinCounts = (m n : ℕ) (d : Device) → add_timeouts (timeouts_device m d) (timeouts_device n (clocks_device m d)) ≡ timeouts_device (m + n) d

-- ---- a run in two parts, and its answers
abbrev pub RunParts : Type 0
RunParts = (d : Device) (xs ys : List Event) → run_of d (xs ++ ys) ≡ run_of (run_of d xs) ys

abbrev pub AnswerParts : Type 0
AnswerParts = (d : Device) (xs ys : List Event) → answers_of d (xs ++ ys) ≡ answers_of d xs ++ answers_of (run_of d xs) ys

-- ---- joined and cut, for any events before and after
module _ (d : Device) (before : List Event) (m n : ℕ) where
  -- the device before the span, the two steps of the cut span, and the one of the joined span
  abbrev pub before_span : Device
  before_span = run_of d before

  abbrev pub first : Stepped
  first = step_of before_span (Clocks m)

  abbrev pub second : Stepped
  second = step_of first.device (Clocks n)

  abbrev pub whole : Stepped
  whole = step_of before_span (Clocks (m + n))

  -- the device after the span, and so IRQ and outputs, are the same
  abbrev pub JoinedDevice : Type 0
  JoinedDevice = whole.device ≡ second.device

  -- the counts add up
  abbrev pub JoinedCounts : Type 0
  JoinedCounts = whole.timeouts ≡ add_timeouts first.timeouts second.timeouts

  -- the final device is the same
  abbrev pub JoinedRun : Type 0
  JoinedRun = (after : List Event) → run_of d (before ++ Clocks (m + n) ∷ after) ≡ run_of d (before ++ Clocks m ∷ Clocks n ∷ after)

  -- the answers to other events are the same: those before, and those after the span
  abbrev pub CutAnswers : Type 0
  CutAnswers = (after : List Event) → answers_of d (before ++ Clocks m ∷ Clocks n ∷ after) ≡ answers_of d before ++ (answer_of first ++ (answer_of second ++ answers_of second.device after))

  abbrev pub JoinedAnswers : Type 0
  JoinedAnswers = (after : List Event) → answers_of d (before ++ Clocks (m + n) ∷ after) ≡ answers_of d before ++ (answer_of whole ++ answers_of second.device after)
