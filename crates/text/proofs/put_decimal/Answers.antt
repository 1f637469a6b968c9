-- `text::put_decimal` meets its contract: one digit, or what the library prints of the tens, and the last digit. Assumes nothing.
use Prim.Native.Nat.{ℕ, ◌/◌, ◌<◌, ◌^◌}
use Rattle.std.specs.Fmt.{decimal as printed}
use Rattle.text.proofs.Decimal.{below_ten, from_ten, one_more, decimal_is}
use Rattle.text.specs.Lines.{decimal}
use lib.ListN.{length}
use mathlib.Core.List.{List, append_assoc}
use mathlib.Core.Path.{◌≡◌, sym, ap, ◌∙◌}
use native.Mathlib.Omega.{arith}
use Rattle.text.proofs.put_decimal.Goals as goal

text_is : (n : ℕ) (s t : List ℕ) → n < 2 ^ 64 → s ≡ t → t ≡ printed n → s ≡ decimal n
text_is n s t w p q = p ∙ q ∙ sym (decimal_is n w)

pub push-requires : goal.push-requires
push-requires c = (omega arith, omega (arith, ap length (below_ten c.args.n (omega (arith, c.if-is_digit.true))), c.requires))

pub returns-then-is_digit : goal.returns-then-is_digit
returns-then-is_digit c =
    let t = below_ten c.args.n (omega (arith, c.if-is_digit.true)) in
    record { items = rw t c.push.ensures.items; len = omega (arith, ap length t, c.push.ensures.len) }

pub put-requires : goal.put-requires
put-requires c =
    let t = text_is (c.args.n / 10) _ _ (omega arith) c.as_bytes.ensures.value c.format.ensures.text in
    omega (arith, ap length t, one_more c.args.n (omega (arith, c.if-is_digit.false)), c.requires)

pub push-requires-else-is_digit : goal.push-requires-else-is_digit
push-requires-else-is_digit c =
    let t = text_is (c.args.n / 10) _ _ (omega arith) c.as_bytes.ensures.value c.format.ensures.text in
    (omega arith, omega (arith, c.put.ensures.len, ap length t, one_more c.args.n (omega (arith, c.if-is_digit.false)), c.requires))

pub returns-else-is_digit : goal.returns-else-is_digit
returns-else-is_digit c =
    let t = text_is (c.args.n / 10) _ _ (omega arith) c.as_bytes.ensures.value c.format.ensures.text in
    record {
      items = rw (c.push-else-is_digit.ensures.items, c.put.ensures.items, t, from_ten c.args.n (omega (arith, c.if-is_digit.false))) (append_assoc c.args.line.now.items (decimal (c.args.n / 10)) _);
      len = omega (arith, c.put.ensures.len, ap length t, one_more c.args.n (omega (arith, c.if-is_digit.false)), c.push-else-is_digit.ensures.len);
    }
