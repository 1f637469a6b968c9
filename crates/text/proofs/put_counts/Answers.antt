-- `text::put_counts` meets its contract: four numbers, each where the last one ends. Assumes nothing.
use Prim.Native.Nat.{◌<◌}
use Rattle.text.proofs.Sizes.{Takes, count_takes}
use Rattle.text.specs.Lines.{count_most, counts_of}
use Rattle.timeouts.specs.declared.Timeouts.{Timeouts}
use mathlib.Core.List.{append_assoc}
use native.Mathlib.Omega.{arith}
use Rattle.text.proofs.put_counts.Goals as goal

fit : (n : Timeouts) → n.a < 4294967296 → n.b < 4294967296 → n.c < 4294967296 → n.d < 4294967296 → Takes n.a count_most × Takes n.b count_most × Takes n.c count_most × Takes n.d count_most
fit n a b c d = (count_takes n.a (omega arith), count_takes n.b (omega arith), count_takes n.c (omega arith), count_takes n.d (omega arith))

pub put_number-requires : goal.put_number-requires
put_number-requires c = omega (arith, fit c.args.n (omega arith) (omega arith) (omega arith) (omega arith), c.requires)

pub put_number-requires-2 : goal.put_number-requires-2
put_number-requires-2 c = omega (arith, fit c.args.n (omega arith) (omega arith) (omega arith) (omega arith), c.requires, c.put_number.ensures.len)

pub put_number-requires-3 : goal.put_number-requires-3
put_number-requires-3 c = omega (arith, fit c.args.n (omega arith) (omega arith) (omega arith) (omega arith), c.requires, c.put_number.ensures.len, c.put_number-2.ensures.len)

pub put_number-requires-4 : goal.put_number-requires-4
put_number-requires-4 c = omega (arith, fit c.args.n (omega arith) (omega arith) (omega arith) (omega arith), c.requires, c.put_number.ensures.len, c.put_number-2.ensures.len, c.put_number-3.ensures.len)

pub returns : goal.returns
unfolding counts_of
returns c = rw (c.put_number-4.ensures.items, c.put_number-3.ensures.items, c.put_number-2.ensures.items, c.put_number.ensures.items) (simp append_assoc)
