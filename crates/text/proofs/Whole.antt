-- The laws of a line in a buffer: what a public function answers of one that is too short, and of one in which it put the line. Assumes nothing.
use Prim.Native.Nat.{ℕ, ◌≤◌, ◌<◌}
use mathlib.Core.Path.{◌≡◌, refl, sym}
use mathlib.Core.List.{List, ◌++◌}
use borrow.Author.Tests.{lt-ltb, le-ltb}
use lib.ListN.{length, drop}
use lib.Seq.{length-take-le}
use Rattle.text.specs.Lines.{line_most, written, written_length, Counts}

pub counts : (n : ℕ) (out : List ℕ) → n ≤ length out → Counts n out
counts n out h = (h, sym (length-take-le n out h))

-- ---- a buffer of fewer than `line_most` bytes
module _ (text out : List ℕ) (h : length out < line_most) where
  pub left : out ≡ written text out
  unfolding written
  left = rw (lt-ltb (length out) line_most h) refl

  pub none : 0 ≡ written_length text out
  unfolding written_length
  none = rw (lt-ltb (length out) line_most h) refl

-- ---- a buffer of `line_most` bytes or more
module _ (text out : List ℕ) (h : line_most ≤ length out) where
  pub length_long : written_length text out ≡ length text
  unfolding written_length
  length_long = rw (le-ltb (length out) line_most h) refl

  pub written_long : written text out ≡ text ++ drop (length text) out
  unfolding written
  written_long = rw (le-ltb (length out) line_most h) refl
