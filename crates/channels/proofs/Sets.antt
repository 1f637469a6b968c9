-- Sets of channels, bit by bit. Assumes nothing.
use Prim.Native.Nat.{ℕ, zero, suc, ◌+◌, ◌*◌, ◌/◌, ◌%◌, ◌^◌, ◌<◌}
use mathlib.Core.Path.{◌≡◌, refl, sym, ap, ap₂, subst, ◌∙◌}
use mathlib.Core.Bool.{Bool, true, false, not, ◌&&◌, ◌||◌, beq, true≢false, false≢true}
use native.Mathlib.Nat.{mod-lt, mod-eq_of_lt, one-mul, zero-div, div-one, div-add-mod', lt_of_lt_of_le, pow-suc, mul-div_cancel}
use native.Mathlib.Numerals.{one-add, add-one}
use native.Mathlib.Omega.{arith}
use lib.Bits.{bit_and, bit_or, bit_xor, and_shr, or_shr, xor_shr, and_mod, or_mod, xor_mod}
use lib.Dec.{eqb, lit<, eqb-suc-zero, eqb-zero-suc, eqb-suc-suc}
use borrow.Author.Tests.{lt-ltb, ne_eqb}
use lib.Pow.{pow-lt, pow_mono, shr_lt, shr-shr}
use Rattle.channels.specs.Channels.{has, set_of}
use Rattle.channels.specs.declared.Channel.{Channel}

-- ---- and, or
and_bit : (p q : ℕ) → p < 2 → q < 2 → eqb (bit_and p q) 1 ≡ (eqb p 1 && eqb q 1)
and_bit zero zero h k = refl
and_bit zero (suc zero) h k = refl
and_bit zero (suc (suc q)) h k = absurd (omega arith)
and_bit (suc zero) zero h k = refl
and_bit (suc zero) (suc zero) h k = refl
and_bit (suc zero) (suc (suc q)) h k = absurd (omega arith)
and_bit (suc (suc p)) q h k = absurd (omega arith)

or_bit : (p q : ℕ) → p < 2 → q < 2 → eqb (bit_or p q) 1 ≡ (eqb p 1 || eqb q 1)
or_bit zero zero h k = refl
or_bit zero (suc zero) h k = refl
or_bit zero (suc (suc q)) h k = absurd (omega arith)
or_bit (suc zero) zero h k = refl
or_bit (suc zero) (suc zero) h k = refl
or_bit (suc zero) (suc (suc q)) h k = absurd (omega arith)
or_bit (suc (suc p)) q h k = absurd (omega arith)

bit_lt : (n : ℕ) → n % 2 < 2
bit_lt n = mod-lt n (lit< tt)

pub has_and : (a b k : ℕ) → has (bit_and a b) k ≡ (has a k && has b k)
unfolding has
has_and a b k = rw (and_shr a b k, and_mod (a / 2 ^ k) (b / 2 ^ k) 1) (and_bit (a / 2 ^ k % 2) (b / 2 ^ k % 2) (bit_lt _) (bit_lt _))

pub has_or : (a b k : ℕ) → has (bit_or a b) k ≡ (has a k || has b k)
unfolding has
has_or a b k = rw (or_shr a b k, or_mod (a / 2 ^ k) (b / 2 ^ k) 1) (or_bit (a / 2 ^ k % 2) (b / 2 ^ k % 2) (bit_lt _) (bit_lt _))

pub has_none : (k : ℕ) → has 0 k ≡ false
unfolding has
has_none k = rw (zero-div (2 ^ k)) refl

-- ---- the set of one channel
pub bit_below : (c : ℕ) → c < 16 → 2 ^ c < 65536
bit_below c h = pow-lt h

pub shifted : (c : ℕ) → c < 16 → 1 * 2 ^ c % 65536 ≡ 2 ^ c
shifted c h = rw (one-mul (2 ^ c)) (mod-eq_of_lt (bit_below c h))

-- ---- two sets that have the same channels are equal
pub has_zero : (a : ℕ) → has a 0 ≡ eqb (a % 2) 1
unfolding has
has_zero a = ap (λ (n : ℕ). eqb (n % 2) 1) (div-one a)

pub has_suc : (a k : ℕ) → has (a / 2) k ≡ has a (suc k)
unfolding has
has_suc a k = ap (λ (n : ℕ). eqb (n % 2) 1) (shr-shr a 1 k ∙ ap (λ (j : ℕ). a / 2 ^ j) (one-add k))

parity : (p q : ℕ) → p < 2 → q < 2 → eqb p 1 ≡ eqb q 1 → p ≡ q
parity zero zero h k e = refl
parity zero (suc zero) h k e = absurd (false≢true e)
parity zero (suc (suc q)) h k e = absurd (omega arith)
parity (suc zero) zero h k e = absurd (true≢false e)
parity (suc zero) (suc zero) h k e = refl
parity (suc zero) (suc (suc q)) h k e = absurd (omega arith)
parity (suc (suc p)) q h k e = absurd (omega arith)

half_lt : (n a : ℕ) → a < 2 ^ suc n → a / 2 < 2 ^ n
half_lt n a h = shr_lt n 1 (subst (λ (m : ℕ). a < m) (ap (λ (j : ℕ). 2 ^ j) (sym (add-one n))) h)

same_below : (n a b : ℕ) → a < 2 ^ n → b < 2 ^ n → ((k : ℕ) → has a k ≡ has b k) → a ≡ b
same_below zero a b h l e = omega arith
same_below (suc n) a b h l e =
    sym (div-add-mod' a 2)
    ∙ ap₂ (λ (x y : ℕ). x * 2 + y)
    (same_below n (a / 2) (b / 2) (half_lt n a h) (half_lt n b l) (λ k. has_suc a k ∙ e (suc k) ∙ sym (has_suc b k)))
    (parity (a % 2) (b % 2) (bit_lt a) (bit_lt b) (sym (has_zero a) ∙ e 0 ∙ has_zero b))
    ∙ div-add-mod' b 2

below_pow : (n : ℕ) → n < 2 ^ n
below_pow zero = lit< tt
below_pow (suc n) = rw (pow-suc 2 n) (omega (arith, below_pow n))

pub same_set : (a b : ℕ) → ((k : ℕ) → has a k ≡ has b k) → a ≡ b
same_set a b e =
    same_below (a + b) a b
    (lt_of_lt_of_le (below_pow a) (pow_mono (omega arith)))
    (lt_of_lt_of_le (below_pow b) (pow_mono (omega arith)))
    e

-- ---- the algebra of sets
and_assoc_bool : (a b c : Bool) → (a && b && c) ≡ (a && (b && c))
and_assoc_bool true b c = refl
and_assoc_bool false b c = refl

pub and_assoc : (a b c : ℕ) → bit_and (bit_and a b) c ≡ bit_and a (bit_and b c)
and_assoc a b c = same_set _ _ λ k. simp has_and (and_assoc_bool (has a k) (has b k) (has c k))

-- a raise of two sets, one after the other
raises_bool : (p e s t : Bool) → ((p || s && e) || t && e) ≡ (p || (s || t) && e)
raises_bool true e s t = refl
raises_bool false true true t = refl
raises_bool false true false t = refl
raises_bool false false true true = refl
raises_bool false false true false = refl
raises_bool false false false true = refl
raises_bool false false false false = refl

pub or_and_or : (p e s t : ℕ) → bit_or (bit_or p (bit_and s e)) (bit_and t e) ≡ bit_or p (bit_and (bit_or s t) e)
or_and_or p e s t = same_set _ _ λ k. simp (has_or, has_and) (raises_bool (has p k) (has e k) (has s k) (has t k))

-- ---- exclusive or
xor_bit : (p q : ℕ) → p < 2 → q < 2 → eqb (bit_xor p q) 1 ≡ not (beq (eqb p 1) (eqb q 1))
xor_bit zero zero h k = refl
xor_bit zero (suc zero) h k = refl
xor_bit zero (suc (suc q)) h k = absurd (omega arith)
xor_bit (suc zero) zero h k = refl
xor_bit (suc zero) (suc zero) h k = refl
xor_bit (suc zero) (suc (suc q)) h k = absurd (omega arith)
xor_bit (suc (suc p)) q h k = absurd (omega arith)

pub has_xor : (a b k : ℕ) → has (bit_xor a b) k ≡ not (beq (has a k) (has b k))
unfolding has
has_xor a b k = rw (xor_shr a b k, xor_mod (a / 2 ^ k) (b / 2 ^ k) 1) (xor_bit (a / 2 ^ k % 2) (b / 2 ^ k % 2) (bit_lt _) (bit_lt _))

or_bool : (a b c : Bool) → ((a || b) || c) ≡ (a || (b || c))
or_bool true b c = refl
or_bool false b c = refl

pub or_assoc : (a b c : ℕ) → bit_or (bit_or a b) c ≡ bit_or a (bit_or b c)
or_assoc a b c = same_set _ _ λ k. simp has_or (or_bool (has a k) (has b k) (has c k))

swap_bool : (a b c d : Bool) → ((a || b) || (c || d)) ≡ ((a || c) || (b || d))
swap_bool true b c d = refl
swap_bool false true true d = refl
swap_bool false true false d = refl
swap_bool false false true d = refl
swap_bool false false false d = refl

pub or_swap : (a b c d : ℕ) → bit_or (bit_or a b) (bit_or c d) ≡ bit_or (bit_or a c) (bit_or b d)
or_swap a b c d = same_set _ _ λ k. simp has_or (swap_bool (has a k) (has b k) (has c k) (has d k))

-- ---- the set of one channel
has_pow : (c k : ℕ) → has (2 ^ c) k ≡ eqb c k
has_pow zero zero = has_zero 1
has_pow (suc c) zero = has_zero (2 ^ suc c) ∙ rw (pow-suc 2 c) (ne_eqb (2 ^ c * 2 % 2) 1 (omega arith)) ∙ sym (eqb-suc-zero c)
has_pow zero (suc k) = sym (has_suc 1 k) ∙ has_none k ∙ sym (eqb-zero-suc k)
has_pow (suc c) (suc k) =
    sym (has_suc (2 ^ suc c) k)
    ∙ ap (λ (n : ℕ). has n k) (ap (λ (n : ℕ). n / 2) (pow-suc 2 c) ∙ mul-div_cancel (2 ^ c) (lit< tt))
    ∙ has_pow c k
    ∙ sym (eqb-suc-suc c k)

pub has_set_of : (c : Channel) (k : ℕ) → c.0 < 16 → has (set_of c) k ≡ eqb c.0 k
unfolding set_of
has_set_of c k h = rw (lt-ltb _ _ h) (has_pow c.0 k)
