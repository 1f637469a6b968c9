-- The devices of the program, and its lines: what one acknowledge over a row answers.
use Rattle.std.specs.Prelude.{ℕ, ◌/◌, ◌%◌, List, [], ◌∷◌, ◌++◌}
use Prim.Native.Char.{code}
use Rattle.events.specs.declared.RefusedAt.{RefusedAt}
use Rattle.events.specs.Numbers.{number_of}
use Rattle.device.specs.declared.Device.{Device}
use Rattle.device.specs.Whole.{fresh_device, with_interrupts}
use Rattle.row.specs.declared.Given.{Given}
use Rattle.words.specs.Words.{digit, hex_byte}

-- a fresh device with these channels pending and in service, all enabled and unmasked
abbrev pub device_with : ℕ → ℕ → ℕ → Device
device_with pending service vector = with_interrupts (record { enabled = 65535; pending = pending; service = service; mask = 65535; vector = vector }) fresh_device

abbrev pub new_line : ℕ
new_line = 10

-- "G1 5C": device 1 gave the vector 5C
abbrev pub given_line : Given → List ℕ
given_line g = (code "G" ∷ digit (g.index % 10) ∷ code " " ∷ []) ++ (hex_byte g.vector ++ (new_line ∷ []))

-- "R03 2": refusal 3, of device 2
abbrev pub refused_line : RefusedAt → List ℕ
refused_line r = code "R" ∷ digit (number_of r.refusal / 10) ∷ digit (number_of r.refusal % 10) ∷ code " " ∷ digit (r.index % 10) ∷ new_line ∷ []
