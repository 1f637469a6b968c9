-- The sizes of a line's parts: each fits what is named for it, and together they fit `line_most`. Assumes nothing.
use Prim.Native.Nat.{ℕ, suc, ◌+◌, ◌^◌, ◌≤◌, ◌<◌}
use mathlib.Core.Path.{◌≡◌, refl}
use mathlib.Core.Bool.{Bool}
use native.Mathlib.Omega.{arith}
use lib.ListN.{length, length-append}
use Rattle.events.specs.declared.Answer.{Answer}
use Rattle.events.specs.declared.Answer.TheVariants.{Done, Data, Vector, PassedOn, Held}
use Rattle.timeouts.specs.declared.Timeouts.{Timeouts}
use Rattle.text.specs.Lines.{decimal, ended, counts_of, line_of, refused_line, line_most}
use Rattle.words.specs.Words.{bytes, hex_byte, spaced, middle_of}
use Rattle.text.specs.Lines.{index_most, count_most, counts_most}
use Rattle.words.specs.Words.{middle_bytes}
use Rattle.text.proofs.Decimal.{at_most}

-- ---- numbers: what the digits take, and with a space or the end of the line after them
abbrev pub Takes : ℕ → ℕ → Type 0
Takes n most = (length (decimal n) < most) × (length (spaced (decimal n)) ≤ most) × (length (ended (decimal n)) ≤ most)

takes : (k n : ℕ) → n < 10 ^ suc k → Takes n (suc k + 1)
takes k n h = let d = at_most k n h in (omega arith, rw length-append (omega arith), rw length-append (omega arith))

pub index_takes : (n : ℕ) → n < 2 ^ 16 → Takes n index_most
index_takes n h = takes 4 n (omega arith)

pub count_takes : (n : ℕ) → n < 2 ^ 32 → Takes n count_most
count_takes n h = takes 9 n (omega arith)

-- ---- the parts of a line
parts_fit : index_most + middle_bytes + counts_most ≤ line_most
parts_fit = omega arith

pub middle_length : (a : Answer) (irq : Bool) (o : ℕ) → length (middle_of a irq o) ≡ middle_bytes
unfolding middle_of hex_byte
middle_length Done irq o = refl
middle_length (Data v) irq o = refl
middle_length (Vector v) irq o = refl
middle_length PassedOn irq o = refl
middle_length Held irq o = refl

module _ (n : Timeouts) (a : n.a < 2 ^ 32) (b : n.b < 2 ^ 32) (c : n.c < 2 ^ 32) (d : n.d < 2 ^ 32) where
  counts_fit : length (counts_of n) ≤ counts_most
  unfolding counts_of
  counts_fit =
      rw (length-append (spaced (decimal n.a)), length-append (spaced (decimal n.b)), length-append (spaced (decimal n.c)))
      (omega (arith, count_takes n.a a, count_takes n.b b, count_takes n.c c, count_takes n.d d))

  -- ---- lines: "64 bytes hold every line" (D85)
  pub line_fits : (i : ℕ) (o : Answer) (irq : Bool) (outputs : ℕ) → i < 2 ^ 16 → length (line_of i o irq outputs n) ≤ line_most
  unfolding line_of
  line_fits i o irq outputs h =
      rw (length-append (spaced (decimal i)), length-append (middle_of o irq outputs), middle_length)
      (omega (arith, index_takes i h, counts_fit, parts_fit))

-- a refusal's number is below 256, and takes no more than an index
pub refused_fits : (k i : ℕ) → k < 2 ^ 16 → i < 2 ^ 16 → length (refused_line k i) ≤ line_most
unfolding refused_line
refused_fits k i h g =
    rw (length-append (spaced (bytes "refused")), length-append (spaced (decimal k)))
    (omega (arith, index_takes k h, index_takes i g))
