-- Document 02, 1/13, over bytes: a row of devices as "images one after another", acknowledged together, as the C face has it.
use Rattle.events.specs.declared.Refusal.{Refusal}
use Rattle.std.specs.Prelude.{ℕ, zero, suc, ◌+◌, ◌*◌, ◌/◌, ◌%◌, ◌^◌, Bool, cond, ◌&&◌, List, [], ◌∷◌, ◌++◌, Option, Some, None, Result, Ok, Err, eqb, ltb, leb, length, take, drop}
use Rattle.events.specs.declared.Refusal.TheVariants.{ImageLength, RowLength}
use Rattle.events.specs.declared.RefusedAt.{RefusedAt}
use Rattle.device.specs.declared.Device.{Device}
use Rattle.layout.specs.Layout.{image_bytes, image_of, device_of}
use Rattle.image.specs.Image.{load_of}
use Rattle.events.specs.Numbers.{returned}
use Rattle.checks.specs.Checks.{bad_at, result_code}
use Rattle.row.specs.declared.Given.{Given}
use Rattle.row.specs.Rows.{row_most, row_answer, row_after}

-- ---- the row
-- "images one after another, highest priority first": the devices of n of them
unfoldable pub row_of : ℕ → List ℕ → List Device
row_of zero b = []
row_of (suc n) b = device_of (take image_bytes b) ∷ row_of n (drop image_bytes b)

-- how many a buffer holds, and their row
abbrev pub images : List ℕ → ℕ
images b = length b / image_bytes

abbrev pub row : List ℕ → List Device
row b = row_of (images b) b

-- and back
unfoldable pub images_of : List Device → List ℕ
images_of [] = []
images_of (d ∷ ds) = image_of d ++ images_of ds

-- ---- the refusals
-- "then 2 and 3 by image, with its index": of the first refused of n images, of which the first has index k
abbrev pub refused_at : Result Device Refusal → ℕ → Result (Unit {0}) RefusedAt → Result (Unit {0}) RefusedAt
refused_at (Ok d) k later = later
refused_at (Err r) k later = bad_at r k

unfoldable pub first_refused : ℕ → ℕ → List ℕ → Result (Unit {0}) RefusedAt
first_refused k zero b = Ok tt
first_refused k (suc n) b = refused_at (load_of (take image_bytes b)) k (first_refused (k + 1) n (drop image_bytes b))

-- "Refuses 10 for a length of 0 or above eight images; then 1 for no multiple of an image; then 2 and 3 by image"
abbrev pub fitting_bytes : ℕ → Bool
fitting_bytes n = ltb 0 n && leb n (row_most * image_bytes)

unfoldable pub row_check : List ℕ → Result (Unit {0}) RefusedAt
row_check b =
    cond (fitting_bytes (length b))
    (cond (eqb (length b % image_bytes) 0) (first_refused 0 (images b) b) (bad_at ImageLength 0))
    (bad_at RowLength 0)

-- as the number that the C call returns of it
abbrev pub row_code : List ℕ → ℕ
row_code b = result_code (row_check b)

-- ---- the whole call
-- "Tells 256 × passed + vector: so many devices at the head passed on, the next one, if any, gave the vector [..]; where none requests, passed is the row's length and the vector 0", of n devices
abbrev pub told_by : ℕ → Option Given → ℕ
told_by n (Some g) = 256 * g.index + g.vector
told_by n None = 256 * n

abbrev pub told_of : ℕ → Result (Option Given) RefusedAt → ℕ
told_of n (Ok g) = told_by n g
told_of n (Err r) = 0

-- what a call tells that the check lets pass, or its refusal
abbrev pub told_after : Result (Unit {0}) RefusedAt → ℕ → Result ℕ RefusedAt
told_after (Ok u) told = Ok told
told_after (Err r) told = Err r

unfoldable pub row_told : List ℕ → Result ℕ RefusedAt
row_told b = told_after (row_check b) (told_of (images b) (row_answer (row b)))

-- "the code in the low 32 bits, what it tells in the high 32; a refused call tells 0"
abbrev pub as_number : Result ℕ RefusedAt → ℕ
as_number (Ok told) = told * 2 ^ 32
as_number (Err r) = returned r.refusal r.index

abbrev pub row_result : List ℕ → ℕ
row_result b = as_number (row_told b)

-- "A refusal leaves the whole row unchanged."
unfoldable pub row_images : List ℕ → List ℕ
row_images b = cond (eqb (row_code b) 0) (images_of (row_after (row b))) b
