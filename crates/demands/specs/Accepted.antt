-- What is accepted: the image that an answered call leaves, a fresh device's, and a tape of no records. Proved in proofs/Accepted.antt.
use Rattle.std.specs.Prelude.{ℕ, ◌≡◌, true, List, [], ◌∷◌, Ok}
use Rattle.device.specs.declared.Device.{Device}
use Rattle.events.specs.declared.Event.{Event}
use Rattle.device.specs.Whole.{fresh_device, image_rule}
use Rattle.layout.specs.Layout.{image_of, device_of}
use Rattle.image.specs.Image.{load_of}
use Rattle.tape.specs.Tapes.{events_of}
use Rattle.run.specs.Runs.{run_of, result_of, image_after, answers_after}
use Rattle.demands.specs.Rule.{WritesByte}
use Rattle.demands.specs.Images.{OfBytes}
use Rattle.demands.specs.Refusals.{GoodImage}

-- ---- after an answered call
-- each of the events writes a byte at most
abbrev pub AllBytes : List Event → Type 0
AllBytes [] = Unit {0}
AllBytes (e ∷ es) = WritesByte e × AllBytes es

-- as the events of any tape do
abbrev pub ATapeWritesBytes : Type 0
ATapeWritesBytes = (tape : List ℕ) → AllBytes (events_of tape)

abbrev pub ARunKeepsTheRule : Type 0
ARunKeepsTheRule = (d : Device) (es : List Event) → AllBytes es → image_rule d ≡ true → image_rule (run_of d es) ≡ true

-- the image at exit loads as the very device that the run left
abbrev pub AnAnsweredCallLeavesAnAcceptedImage : Type 0
AnAnsweredCallLeavesAnAcceptedImage = (image tape answers : List ℕ) → result_of image tape answers ≡ 0 → load_of (image_after image tape answers) ≡ Ok (run_of (device_of image) (events_of tape))

-- ---- the least image and the least tape
-- "A fresh device is all zero."
abbrev pub FreshAccepted : Type 0
FreshAccepted = GoodImage (image_of fresh_device) × (load_of (image_of fresh_device) ≡ Ok fresh_device) × (image_rule fresh_device ≡ true)

-- "A tape of 0 bytes is accepted.": it alters nothing
abbrev pub EmptyTapeAnswered : Type 0
EmptyTapeAnswered = (image answers : List ℕ) → GoodImage image → OfBytes image → (result_of image [] answers ≡ 0) × (image_after image [] answers ≡ image) × (answers_after image [] answers ≡ answers)
