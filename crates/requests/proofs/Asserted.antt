-- IRQ by one comparison: of the wanted channels that are not themselves in service, taken as a number, with those in
-- service. Channel by channel from 0 up, so that only the bits below n count. Assumes nothing.
use Prim.Native.Nat.{ℕ, zero, suc, ◌+◌, ◌*◌, ◌/◌, ◌%◌, ◌^◌, ◌≤◌, ◌<◌}
use mathlib.Core.Path.{◌≡◌, refl, sym, ap, ap₂, ◌∙◌}
use mathlib.Core.Bool.{Bool, true, false, cond, not, ◌&&◌, ◌||◌, beq, true≢false}
use native.Mathlib.Nat.{mod-lt, mod-eq_of_lt, zero-mul, one-mul, zero-add, div-eq_of_lt, div-add-mod', mul-le-mul_right}
use native.Mathlib.Numerals.{one-add}
use native.Mathlib.Omega.{arith}
use lib.Bits.{bit_and, bit_xor}
use lib.Dec.{eqb, ltb}
use lib.Pow.{pow_pos, mod-pow-add}
use borrow.Author.Tests.{lt-ltb, le-ltb, ltb-true, ltb-false, eqb-false}
use Rattle.channels.specs.Channels.{has}
use Rattle.requests.specs.Requests.{some_requests, irq}
use Rattle.interrupts.specs.declared.Interrupts.{Interrupts}
use Rattle.channels.proofs.Sets.{has_and, has_xor}
use Rattle.requests.proofs.Requests.{asks_request}

-- the wanted channels that are not in service
abbrev free : ℕ → ℕ → ℕ
free w s = bit_and w (bit_xor w s)

has_free : (w s k : ℕ) → has (free w s) k ≡ (has w k && not (has s k))
has_free w s k = has_and w (bit_xor w s) k ∙ ap (λ (b : Bool). has w k && b) (has_xor w s k) ∙ go (has w k) (has s k)
  where
    go : (a b : Bool) → (a && not (beq a b)) ≡ (a && not b)
    go true true = refl
    go true false = refl
    go false b = refl

-- a number below 2 ^ k has no bit k
has_not : (s k : ℕ) → s < 2 ^ k → has s k ≡ false
unfolding has
has_not s k h = rw (div-eq_of_lt h) refl

-- a number not below 2 ^ k that has no bit k is not below twice that
above : (q p r s : ℕ) → q * p + r ≡ s → r < p → p ≤ s → (q % 2 ≡ 1 → ⊥) → p + p ≤ s
above zero p r s e h l n = absurd (omega arith)
above (suc zero) p r s e h l n = absurd (n refl)
above (suc (suc q)) p r s e h l n = omega (arith, mul-le-mul_right {m = 2} {n = suc (suc q)} p (omega arith))

no_bit_above : (s k : ℕ) → 2 ^ k ≤ s → has s k ≡ false → 2 ^ k + 2 ^ k ≤ s
unfolding has
no_bit_above s k h e = above (s / 2 ^ k) (2 ^ k) (s % 2 ^ k) s (div-add-mod' s (2 ^ k)) (mod-lt s (pow_pos k)) h (eqb-false _ _ e)

-- the bits below n + 1: those below n, and bit n
bits_more : (m n : ℕ) → m % 2 ^ suc n ≡ cond (has m n) (2 ^ n) 0 + m % 2 ^ n
unfolding has
bits_more m n = ap (λ (k : ℕ). m % 2 ^ k) (sym (one-add n)) ∙ mod-pow-add m 1 n ∙ ap (λ (k : ℕ). k + m % 2 ^ n) (go (m / 2 ^ n % 2) (mod-lt (m / 2 ^ n) (omega arith)))
  where
    go : (b : ℕ) → b < 2 → b * 2 ^ n ≡ cond (eqb b 1) (2 ^ n) 0
    go zero h = zero-mul (2 ^ n)
    go (suc zero) h = one-mul (2 ^ n)
    go (suc (suc b)) h = absurd (omega arith)

module _ (i : Interrupts) (w : ℕ) (e : bit_and i.pending i.mask ≡ w) where
  abbrev s : ℕ
  s = i.service

  some_free : (n : ℕ) → some_requests n i ≡ ltb s (free w s % 2 ^ n)
  unfolding some_requests
  some_free zero = sym (le-ltb s (free w s % 2 ^ 0) (omega (arith, mod-lt (free w s) (pow_pos 0))))
  some_free (suc n) = ap (λ (b : Bool). b || some_requests n i) (sym (asks_request i w s n e refl)) ∙ go (has w n) (has s n) (ltb s (2 ^ n)) refl refl refl (some_free n)
    where
      low : free w s % 2 ^ n < 2 ^ n
      low = mod-lt (free w s) (pow_pos n)

      -- all the bits below n + 1, where bit n is this
      bits : (b : Bool) → has (free w s) n ≡ b → free w s % 2 ^ suc n ≡ cond b (2 ^ n) 0 + free w s % 2 ^ n
      bits b f = bits_more (free w s) n ∙ ap (λ (x : Bool). cond x (2 ^ n) 0 + free w s % 2 ^ n) f

      -- without bit n the question is that of n bits
      same : some_requests n i ≡ ltb s (free w s % 2 ^ n) → has (free w s) n ≡ false → some_requests n i ≡ ltb s (free w s % 2 ^ suc n)
      same ih f = ih ∙ ap (ltb s) (sym (bits false f ∙ zero-add _))

      go : (a b l : Bool) → has w n ≡ a → has s n ≡ b → ltb s (2 ^ n) ≡ l → some_requests n i ≡ ltb s (free w s % 2 ^ n) → (a && l || some_requests n i) ≡ ltb s (free w s % 2 ^ suc n)
      go true true true f g h ih = absurd (true≢false (sym g ∙ has_not s n (ltb-true _ _ h)))
      go true true false f g h ih = same ih (has_free w s n ∙ ap₂ (λ (x y : Bool). x && not y) f g)
      go true false true f g h ih = sym (lt-ltb s (free w s % 2 ^ suc n) (omega (arith, ltb-true s (2 ^ n) h, bits true (has_free w s n ∙ ap₂ (λ (x y : Bool). x && not y) f g))))
      go true false false f g h ih =
          ih
          ∙ le-ltb s (free w s % 2 ^ n) (omega (arith, low, ltb-false s (2 ^ n) h))
          ∙ sym (le-ltb s (free w s % 2 ^ suc n) (omega (arith, low, no_bit_above s n (ltb-false s (2 ^ n) h) g, bits true (has_free w s n ∙ ap₂ (λ (x y : Bool). x && not y) f g))))
      go false b l f g h ih = same ih (has_free w s n ∙ ap₂ (λ (x y : Bool). x && not y) f g)

  pub asserted : free w s < 65536 → irq i ≡ ltb s (free w s)
  unfolding irq
  asserted h = some_free 16 ∙ ap (ltb s) (mod-eq_of_lt h)
