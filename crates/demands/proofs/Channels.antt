-- A set of channels against a power of 2, and an acknowledge where S is 0. Assumes nothing.
use Rattle.std.proofs.Common.{Option, Some, None}
use Prim.Native.Nat.{ℕ, ◌+◌, ◌-◌, ◌/◌, ◌%◌, ◌^◌, ◌≤◌, ◌<◌}
use mathlib.Core.Path.{◌≡◌, refl, sym, ap, subst, ◌∙◌}
use mathlib.Core.Bool.{Bool, true, false}
use native.Mathlib.Nat.{div-eq_of_lt, lt_of_lt_of_le, mod-lt}
use native.Mathlib.Omega.{arith}
use lib.Dec.{eqb, ltb}
use lib.Pow.{pow_pos, pow_mono, field, mod-mod-pow}
use borrow.Author.Tests.{lt-ltb, ltb-true, ltb-false}
use Rattle.channels.specs.declared.Channel.{Channel}
use Rattle.interrupts.specs.declared.Interrupts.{Interrupts}
use Rattle.channels.specs.Channels.{has}
use Rattle.interrupts.specs.Interrupts.{S}
use Rattle.requests.specs.Requests.{given, highest, acknowledged_by, acknowledged}
use Rattle.channels.proofs.Sets.{same_set}
use Rattle.demands.specs.Channels.{BelowHasNone, NoneIsBelow, Unserved}

-- ---- a set and a power of 2
above : (s c k : ℕ) → s < 2 ^ c → c ≤ k → has s k ≡ false
unfolding has
above s c k h l = rw (div-eq_of_lt (lt_of_lt_of_le h (pow_mono l))) refl

pub below_has_none : BelowHasNone
below_has_none s c e k l = above s c k (ltb-true _ _ e) l

-- the channels below c are those of the remainder
remains : (s c k : ℕ) → k < c → has (s % 2 ^ c) k ≡ has s k
unfolding has
remains s c k h =
    ap (λ (n : ℕ). eqb (n % 2) 1)
    (ap (λ (m : ℕ). s % 2 ^ m / 2 ^ k) (let e : c ≡ (c - k - 1 + 1) + k = omega arith in e) ∙ field s (c - k - 1 + 1) k)
    ∙ ap (λ (n : ℕ). eqb n 1) (mod-mod-pow (s / 2 ^ k) (c - k - 1) 1)

pub none_is_below : NoneIsBelow
none_is_below s c f = lt-ltb _ _ (subst (λ (n : ℕ). n < 2 ^ c) (sym (same_set s (s % 2 ^ c) each)) (mod-lt s (pow_pos c)))
  where
    each : (k : ℕ) → has s k ≡ has (s % 2 ^ c) k
    each k = go (ltb k c) refl
      where
        go : (b : Bool) → ltb k c ≡ b → has s k ≡ has (s % 2 ^ c) k
        go true e = sym (remains s c k (ltb-true _ _ e))
        go false e = f k (ltb-false _ _ e) ∙ sym (above (s % 2 ^ c) c k (mod-lt s (pow_pos c)) (ltb-false _ _ e))

-- ---- an acknowledge where S is 0
no_bit : (c : Channel) (i : Interrupts) → S i.vector ≡ false → (given c i).service ≡ i.service
unfolding given
no_bit c i e = rw e refl

pub unserved : Unserved
unfolding acknowledged
unserved false i e = refl
unserved true i e = go (highest i)
  where
    go : (q : Option Channel) → (acknowledged_by q i).interrupts.service ≡ i.service
    go (Some c) = no_bit c i e
    go None = refl
