-- The channels of two spans' timeouts are those of their sum. Assumes nothing.
use Prim.Native.Nat.{ℕ, ◌+◌, ◌<◌, ◌≤◌}
use mathlib.Core.Path.{◌≡◌, refl, sym, ap, ap₂, ◌∙◌}
use mathlib.Core.Bool.{Bool, true, false, ◌||◌}
use native.Mathlib.Omega.{arith}
use lib.Bits.{bit_or, or_zero_r, or_zero_l, or_self}
use lib.Dec.{ltb}
use borrow.Author.Tests.{lt-ltb, le-ltb, ltb-true, ltb-false}
use Rattle.channels.specs.declared.Channel.{Channel}
use Rattle.channels.specs.Channels.{set_of, timer_a, timer_b, timer_c, timer_d}
use Rattle.channels.specs.Raises.{only_if, raised_by}
use Rattle.channels.proofs.Sets.{or_swap}
use Rattle.timeouts.specs.declared.Timeouts.{Timeouts}
use Rattle.timeouts.specs.Clocks.{none, add_timeouts, timeout_raises}

positive : (m n : ℕ) → (ltb 0 m || ltb 0 n) ≡ ltb 0 (m + n)
positive m n = go (ltb 0 m) (ltb 0 n) refl refl
  where
    go : (a b : Bool) → ltb 0 m ≡ a → ltb 0 n ≡ b → (ltb 0 m || ltb 0 n) ≡ ltb 0 (m + n)
    go true b p q = let f : 0 < m = ltb-true _ _ p in rw p (sym (lt-ltb 0 (m + n) (omega arith)))
    go false true p q = let f : 0 < n = ltb-true _ _ q in rw (p, q) (sym (lt-ltb 0 (m + n) (omega arith)))
    go false false p q = let f : m ≤ 0 = ltb-false _ _ p in let g : n ≤ 0 = ltb-false _ _ q in rw (p, q) (sym (le-ltb 0 (m + n) (omega arith)))

union : (a b : Bool) (c : Channel) → bit_or (only_if a c) (only_if b c) ≡ only_if (a || b) c
union true true c = or_self (set_of c)
union true false c = or_zero_r (set_of c)
union false b c = or_zero_l (only_if b c)

-- one channel, and the rest
module _ (m n : ℕ) (c : Channel) (s t u : ℕ) (e : bit_or s t ≡ u) where
  each : bit_or (bit_or (only_if (ltb 0 m) c) s) (bit_or (only_if (ltb 0 n) c) t) ≡ bit_or (only_if (ltb 0 (m + n)) c) u
  each = or_swap (only_if (ltb 0 m) c) s (only_if (ltb 0 n) c) t ∙ ap₂ bit_or (union (ltb 0 m) (ltb 0 n) c ∙ ap (λ (b : Bool). only_if b c) (positive m n)) e

pub timeouts_add_raises : (m n : Timeouts) → bit_or (raised_by (timeout_raises m)) (raised_by (timeout_raises n)) ≡ raised_by (timeout_raises (add_timeouts m n))
unfolding raised_by
timeouts_add_raises m n =
    each m.a n.a timer_a _ _ _
    (each m.b n.b timer_b _ _ _
    (each m.c n.c timer_c _ _ _
    (each m.d n.d timer_d 0 0 0 refl)))

pub none_raises : raised_by (timeout_raises none) ≡ 0
unfolding raised_by
none_raises = refl
