-- What an accepted image has shown: its length, its mark, its rule, and its device. Assumes nothing.
use Prim.Native.Nat.{ℕ}
use mathlib.Core.Path.{◌≡◌, refl}
use mathlib.Core.Bool.{Bool, true, false, cond, ◌&&◌}
use mathlib.Core.List.{List}
use native.Mathlib.Omega.{arith}
use Rattle.std.proofs.Common.{Ok, Err}
use lib.Dec.{eqb}
use lib.ListN.{length}
use borrow.Author.Tests.{eqb-true}
use Rattle.device.specs.declared.Device.{Device}
use Rattle.events.specs.declared.Refusal.TheVariants.{ImageLength, ImageMark, ImageRule}
use Rattle.device.specs.Whole.{image_rule}
use Rattle.bits.specs.Bytes.{byte}
use Rattle.layout.specs.Layout.{image_bytes, image_mark0, image_mark1, device_of}
use Rattle.image.specs.Image.{unused_zero, load_of}

pub record Read (b : List ℕ) (d : Device) : Type 0 where
  pub whole : length b ≡ image_bytes
  pub first : byte b 0 ≡ image_mark0
  pub second : byte b 1 ≡ image_mark1
  pub unused : unused_zero b ≡ true
  pub ruled : image_rule (device_of b) ≡ true
  pub is : d ≡ device_of b

module _ (b : List ℕ) (d : Device) where
  by_tests : (l m n u r : Bool) → eqb (length b) image_bytes ≡ l → eqb (byte b 0) image_mark0 ≡ m → eqb (byte b 1) image_mark1 ≡ n → unused_zero b ≡ u → image_rule (device_of b) ≡ r
      → cond l (cond (m && n) (cond (u && r) (Ok (device_of b)) (Err ImageRule)) (Err ImageMark)) (Err ImageLength) ≡ Ok d → Read b d
  by_tests true true true true true p q s t v e = record { whole = eqb-true _ _ p; first = eqb-true _ _ q; second = eqb-true _ _ s; unused = t; ruled = v; is = cc }
  by_tests true true true true false p q s t v e = absurd (grind arith)
  by_tests true true true false r p q s t v e = absurd (grind arith)
  by_tests true true false u r p q s t v e = absurd (grind arith)
  by_tests true false n u r p q s t v e = absurd (grind arith)
  by_tests false m n u r p q s t v e = absurd (grind arith)

  pub read : load_of b ≡ Ok d → Read b d
  unfolding load_of
  read e = by_tests (eqb (length b) image_bytes) (eqb (byte b 0) image_mark0) (eqb (byte b 1) image_mark1) (unused_zero b) (image_rule (device_of b)) refl refl refl refl refl e
