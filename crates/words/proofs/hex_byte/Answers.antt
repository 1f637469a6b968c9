-- `words::hex_byte` meets its contract: each entry of the table is the digit of its index, which is computed. Assumes nothing.
use Prim.Native.Nat.{ℕ, ◌<◌, ◌/◌, ◌%◌}
use Rattle.std.proofs.lemmas.Bool.{agree_below_at}
use Rattle.words.specs.Words.{hex_digit, hex_byte}
use Rattle.words.specs.declared.TheConstants.{HEX_DIGITS}
use lib.Dec.{eqb}
use lib.ListN.{get_or}
use borrow.Author.Tests.{eqb-true}
use mathlib.Core.Bool.{true}
use mathlib.Core.List.{[], ◌∷◌}
use mathlib.Core.Path.{◌≡◌, refl, ap₂}
use native.Mathlib.Omega.{arith}
use Rattle.words.proofs.hex_byte.Goals as goal

digit_at : (d : ℕ) → d < 16 → get_or HEX_DIGITS d 0 ≡ hex_digit d
digit_at d h =
    eqb-true (get_or HEX_DIGITS d 0) (hex_digit d) (agree_below_at (λ n. eqb (get_or HEX_DIGITS n 0) (hex_digit n)) (λ n. true) 16 d refl h)

pub returns : goal.returns
unfolding hex_byte
returns c =
    let v = c.args.v in
    rw (c.from.ensures, c.from-2.ensures) (ap₂ (λ (h l : ℕ). h ∷ l ∷ []) (digit_at (v / 16) (omega arith)) (digit_at (v % 16) (omega arith)))
