-- Document 01, "Image, 32 bytes": refusals 1 to 3, a load and a save.
use Rattle.std.specs.Prelude.{ℕ, ◌/◌, ◌%◌, Bool, cond, ◌&&◌, List, Result, Ok, Err, eqb, ltb, length}
use Rattle.bits.specs.Bytes.{byte}
use Rattle.events.specs.declared.Refusal.{Refusal}
use Rattle.events.specs.declared.Refusal.TheVariants.{ImageLength, ImageMark, ImageRule}
use Rattle.device.specs.declared.Device.{Device}
use Rattle.device.specs.Whole.{image_rule}
use Rattle.layout.specs.Layout.{image_bytes, image_mark0, image_mark1, image_of, device_of}

-- ---- refusals 1 to 3
-- "unused bits of 13, 16, 29, 31 zero": of 16, 29 and 31, which no field of a record holds; byte 13 is in the record's rule
unfoldable pub unused_zero : List ℕ → Bool
unused_zero b = ltb (byte b 16) 128 && eqb (byte b 16 / 8 % 2) 0 && ltb (byte b 29) 16 && ltb (byte b 31) 4

-- 1: "image buffer is not 32 bytes", 2: "image mark wrong", 3: "image or device record breaks the image rule", in this order
unfoldable pub load_of : List ℕ → Result Device Refusal
load_of b =
    cond (eqb (length b) image_bytes)
    (cond (eqb (byte b 0) image_mark0 && eqb (byte b 1) image_mark1)
    (cond (unused_zero b && image_rule (device_of b)) (Ok (device_of b)) (Err ImageRule))
    (Err ImageMark))
    (Err ImageLength)

-- a device written over a buffer of an image's length; any other buffer stays
unfoldable pub stored_over : Device → List ℕ → List ℕ
stored_over d b = cond (eqb (length b) image_bytes) (image_of d) b

-- "of an image buffer that is only written, as in a save, the length alone" is checked, then the record
unfoldable pub saved_of : Device → List ℕ → Result (Unit {0}) Refusal
saved_of d b = cond (eqb (length b) image_bytes) (cond (image_rule d) (Ok tt) (Err ImageRule)) (Err ImageLength)

unfoldable pub saved_over : Device → List ℕ → List ℕ
saved_over d b = cond (image_rule d) (stored_over d b) b
