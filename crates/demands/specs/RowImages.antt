-- Document 02, 1/13, as a C host meets it: a row of "images one after another", of the rules in crate row_images. Proved in proofs/RowImages.antt.
use Rattle.std.specs.Prelude.{ℕ, ◌+◌, ◌*◌, ◌/◌, ◌%◌, ◌^◌, ◌≡◌, true, List, ◌∷◌, ◌++◌, length}
use Rattle.events.specs.declared.Event.TheVariants.{Acknowledge}
use Rattle.device.specs.declared.Device.{Device}
use Rattle.device.specs.Whole.{irq_of}
use Rattle.step.specs.Events.{step_of}
use Rattle.layout.specs.Layout.{image_of}
use Rattle.row.specs.Rows.{row_answer, row_after}
use Rattle.row_images.specs.RowImages.{images, row, images_of, row_code, told_of, row_result, row_images}
use Rattle.demands.specs.Images.{OfBytes}
use Rattle.demands.specs.Rows.{NoneRequests, AcceptedRow}

-- ---- rows of devices and rows of images are the same rows
-- the images of an accepted row are accepted, and are the images of that row
abbrev pub ImagesOfARow : Type 0
ImagesOfARow = (ds : List Device) → AcceptedRow ds → (row_code (images_of ds) ≡ 0) × (row (images_of ds) ≡ ds)

-- the devices of accepted images are an accepted row, one an image, and the images are theirs
pub record RowOf (b : List ℕ) : Type 0 where
  pub accepted : AcceptedRow (row b)
  pub each : length (row b) ≡ images b
  pub same : images_of (row b) ≡ b

abbrev pub RowOfImages : Type 0
RowOfImages = (b : List ℕ) → OfBytes b → row_code b ≡ 0 → RowOf b

-- ---- the whole number that the call returns
-- "the code in the low 32 bits, what it tells in the high 32; a refused call tells 0"
pub record Halves (b : List ℕ) : Type 0 where
  pub low : row_result b % 2 ^ 32 ≡ row_code b
  pub high : row_code b ≡ 0 → row_result b / 2 ^ 32 ≡ told_of (images b) (row_answer (row b))
  pub refused : (row_code b ≡ 0 → ⊥) → row_result b / 2 ^ 32 ≡ 0

abbrev pub CodeAndTold : Type 0
CodeAndTold = (b : List ℕ) → Halves b

-- ---- "The first device that requests gives its vector [..]; those above it pass on and those below are held, all unchanged": its 32 bytes alone are written anew
pub record RowWrote (b : List ℕ) (above : List Device) (d : Device) (below : List Device) : Type 0 where
  pub value : ℕ
  pub before : b ≡ images_of above ++ (image_of d ++ images_of below)
  pub after : row_images b ≡ images_of above ++ (image_of (step_of d (Acknowledge true)).device ++ images_of below)
  pub tells : row_result b ≡ (256 * length above + value) * 2 ^ 32

abbrev pub OneImageIsWritten : Type 0
OneImageIsWritten =
    (b : List ℕ) (above : List Device) (d : Device) (below : List Device) → OfBytes b → row_code b ≡ 0 → row b ≡ above ++ (d ∷ below) → NoneRequests above → irq_of d ≡ true → RowWrote b above d below

-- "Where none requests, all pass on unchanged.": no byte changes
abbrev pub NoImageIsWritten : Type 0
NoImageIsWritten = (b : List ℕ) → OfBytes b → row_code b ≡ 0 → NoneRequests (row b) → (row_images b ≡ b) × (row_result b ≡ 256 * images b * 2 ^ 32)

-- ---- the next call
-- it accepts what an accepted call leaves, which is the row acknowledged
abbrev pub NextCallAccepts : Type 0
NextCallAccepts = (b : List ℕ) → OfBytes b → row_code b ≡ 0 → (row_code (row_images b) ≡ 0) × (row (row_images b) ≡ row_after (row b))

-- ---- "A refusal leaves the whole row unchanged."
abbrev pub RefusedImagesUnchanged : Type 0
RefusedImagesUnchanged = (b : List ℕ) → (row_code b ≡ 0 → ⊥) → (row_result b ≡ row_code b) × (row_images b ≡ b)
