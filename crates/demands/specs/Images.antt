-- Demand 2: "A device saved as an image and loaded again is the same device, and an accepted image, loaded and saved, gives the same bytes." Proved in proofs/Images.antt.
use Rattle.std.specs.Prelude.{ℕ, ◌<◌, ◌≡◌, true, List, Ok}
use Rattle.device.specs.declared.Device.{Device}
use Rattle.device.specs.Whole.{image_rule}
use Rattle.layout.specs.Layout.{image_of}
use Rattle.image.specs.Image.{load_of}
use Rattle.bits.specs.Bytes.{byte}

abbrev pub LoadOfSave : Type 0
LoadOfSave = (x : Device) → image_rule x ≡ true → load_of (image_of x) ≡ Ok x

-- a buffer's elements are bytes, as its type says
abbrev pub OfBytes : List ℕ → Type 0
OfBytes b = (k : ℕ) → byte b k < 256

abbrev pub SaveOfLoad : Type 0
SaveOfLoad = (b : List ℕ) (x : Device) → OfBytes b → load_of b ≡ Ok x → image_of x ≡ b
