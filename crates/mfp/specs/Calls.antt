-- The C face: the image of a fresh device, written over a buffer.
use Rattle.std.specs.Prelude.{ℕ, cond, List, eqb, length}
use Rattle.events.specs.declared.Refusal.TheVariants.{ImageLength}
use Rattle.events.specs.Numbers.{number_of}
use Rattle.device.specs.Whole.{fresh_device}
use Rattle.layout.specs.Layout.{image_bytes}
use Rattle.image.specs.Image.{stored_over}

-- 1: "image buffer is not 32 bytes", else 0
unfoldable pub fresh_result : List ℕ → ℕ
fresh_result b = cond (eqb (length b) image_bytes) 0 (number_of ImageLength)

-- "A fresh device is all zero.", as an image
unfoldable pub fresh_over : List ℕ → List ℕ
fresh_over b = stored_over fresh_device b
