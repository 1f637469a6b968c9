-- Document 02, 1/13: an acknowledge over a row of devices chained by IEI and IEO, in the paper's words.
use Rattle.std.specs.Prelude.{ℕ, ◌+◌, Bool, true, false, cond, ◌&&◌, List, [], ◌∷◌, Option, Some, None, Result, Ok, Err, map, length, ltb, leb}
use Rattle.events.specs.declared.Event.TheVariants.{Acknowledge}
use Rattle.events.specs.declared.Answer.{Answer}
use Rattle.events.specs.declared.Answer.TheVariants.{Done, Data, Vector, PassedOn, Held}
use Rattle.events.specs.declared.Refusal.TheVariants.{ImageRule, RowLength}
use Rattle.events.specs.declared.RefusedAt.{RefusedAt}
use Rattle.device.specs.declared.Device.{Device}
use Rattle.device.specs.declared.Stepped.{Stepped}
use Rattle.device.specs.Whole.{image_rule}
use Rattle.step.specs.Events.{step_of}
use Rattle.row.specs.declared.Given.{Given}

-- ---- an accepted row
-- 01: ""passed on" (IEO asserted)": a device's IEO is asserted exactly if it passes on. "An in-service bit alone does not hold back IEO" (theorem ServiceAloneHoldsNothingBack).
abbrev pub ieo : Answer → Bool
ieo Done = false
ieo (Data v) = false
ieo (Vector v) = false
ieo PassedOn = true
ieo Held = false

-- "chained by IEI and IEO": what each device's acknowledge comes to, from one with this IEI on. Each takes as its IEI the IEO of the one above.
unfoldable pub acknowledged_from : Bool → List Device → List Stepped
acknowledged_from iei [] = []
acknowledged_from iei (d ∷ ds) = step_of d (Acknowledge iei) ∷ acknowledged_from (ieo (step_of d (Acknowledge iei)).answer) ds

-- "an acknowledge over a row of one to eight devices lent together, the first with IEI asserted": each device's class (passed on, vector or held) is in its answer
abbrev pub acknowledged_row : List Device → List Stepped
acknowledged_row = acknowledged_from true

-- the devices after it
abbrev pub devices_of : List Stepped → List Device
devices_of = map (λ (s : Stepped). s.device)

-- "The first device that requests gives its vector [..] Where none requests, all pass on": which of those from the k-th on gave which vector
abbrev pub given_or : Answer → ℕ → Option Given → Option Given
given_or Done k later = later
given_or (Data v) k later = later
given_or (Vector v) k later = Some (record { index = k; vector = v })
given_or PassedOn k later = later
given_or Held k later = later

unfoldable pub given_from : ℕ → List Stepped → Option Given
given_from k [] = None
given_from k (s ∷ ss) = given_or s.answer k (given_from (k + 1) ss)

-- ---- the refusals
-- "one to eight devices"
abbrev pub row_most : ℕ
row_most = 8

abbrev pub fitting : ℕ → Bool
fitting n = ltb 0 n && leb n row_most

unfoldable pub all_keep : List Device → Bool
all_keep [] = true
all_keep (d ∷ ds) = image_rule d && all_keep ds

-- "the first device that breaks the image rule, with its index": how many stand before it
unfoldable pub first_broken : List Device → ℕ
first_broken [] = 0
first_broken (d ∷ ds) = cond (image_rule d) (first_broken ds + 1) 0

-- ---- the whole call
-- "Refusals: 10 for a row of none or more than eight, checked first; then 3 for the first device that breaks the image rule, with its index."
unfoldable pub row_answer : List Device → Result (Option Given) RefusedAt
row_answer ds =
    cond (fitting (length ds))
    (cond (all_keep ds) (Ok (given_from 0 (acknowledged_row ds))) (Err (record { refusal = ImageRule; index = first_broken ds })))
    (Err (record { refusal = RowLength; index = 0 }))

-- "A refusal leaves the whole row unchanged."
unfoldable pub row_after : List Device → List Device
row_after ds = cond (fitting (length ds)) (cond (all_keep ds) (devices_of (acknowledged_row ds)) ds) ds
