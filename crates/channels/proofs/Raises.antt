-- The raises of two lists together are those of each. Assumes nothing.
use mathlib.Core.Path.{◌≡◌, sym, ap, ◌∙◌}
use mathlib.Core.List.{List, [], ◌∷◌, ◌++◌}
use lib.Bits.{bit_or, or_zero_l}
use lib.Dec.{ltb}
use Rattle.channels.specs.Raises.{Raises, only_if, raised_by}
use Rattle.channels.proofs.Sets.{or_assoc}

pub raised_by_parts : (xs ys : List Raises) → raised_by (xs ++ ys) ≡ bit_or (raised_by xs) (raised_by ys)
unfolding raised_by
raised_by_parts [] ys = sym (or_zero_l (raised_by ys))
raised_by_parts (x ∷ xs) ys =
    let s = only_if (ltb 0 x.times) x.channel in
    ap (bit_or s) (raised_by_parts xs ys) ∙ sym (or_assoc s (raised_by xs) (raised_by ys))
