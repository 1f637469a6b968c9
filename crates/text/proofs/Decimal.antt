-- The laws of decimal: its two cases, and how many digits there are; and that it is what the library prints. Assumes nothing.
use Prim.Native.Nat.{ℕ, zero, suc, ◌+◌, ◌/◌, ◌%◌, ◌^◌, ◌≤◌, ◌<◌}
use mathlib.Core.Path.{◌≡◌, refl, sym, ap, ◌∙◌}
use mathlib.Core.Bool.{Bool, true, false}
use mathlib.Core.List.{List, [], ◌∷◌, ◌++◌}
use mathlib.Core.Logic.{◌⊎◌, inl, inr, ⊎_elim}
use native.Mathlib.Nat.{pow-suc}
use native.Mathlib.Omega.{arith}
use borrow.Author.Tests.{ltb-true, ltb-false, lt-ltb, le-ltb}
use lib.Dec.{ltb}
use lib.ListN.{length, length-append}
use Rattle.std.specs.Fmt.{decimal as printed}
use Rattle.std.proofs.lemmas.Fmt.{AppendsLastDigit, decimal_from_appends, decimal_digit, decimal_step, length-decimal-le_succ}
use Rattle.text.specs.Lines.{decimal_in, decimal}
use Rattle.words.specs.Words.{digit}

either : (n : ℕ) → (n < 10) ⊎ (10 ≤ n)
either n = go (ltb n 10) refl
  where
    go : (b : Bool) → ltb n 10 ≡ b → (n < 10) ⊎ (10 ≤ n)
    go true e = inl (ltb-true n 10 e)
    go false e = inr (ltb-false n 10 e)

one : (k n : ℕ) → n < 10 → decimal_in k n ≡ digit n ∷ []
unfolding decimal_in
one zero n h = refl
one (suc k) n h = rw (lt-ltb n 10 h)

more : (k n : ℕ) → 10 ≤ n → decimal_in (suc k) n ≡ decimal_in k (n / 10) ++ (digit (n % 10) ∷ [])
unfolding decimal_in
more k n h = rw (le-ltb n 10 h)

-- any bound that is at least n gives the same digits
enough : (k j n : ℕ) → n ≤ k → n ≤ j → decimal_in k n ≡ decimal_in j n
enough zero j n h g = one zero n (omega arith) ∙ sym (one j n (omega arith))
enough (suc k) zero n h g = one (suc k) n (omega arith) ∙ sym (one zero n (omega arith))
enough (suc k) (suc j) n h g =
    ⊎_elim (λ p. one (suc k) n p ∙ sym (one (suc j) n p))
    (λ q. more k n q ∙ ap (λ (l : List ℕ). l ++ (digit (n % 10) ∷ [])) (enough k j (n / 10) (omega arith) (omega arith)) ∙ sym (more j n q))
    (either n)

pub below_ten : (n : ℕ) → n < 10 → decimal n ≡ digit n ∷ []
unfolding decimal
below_ten n h = one n n h

pub from_ten : (n : ℕ) → 10 ≤ n → decimal n ≡ decimal (n / 10) ++ (digit (n % 10) ∷ [])
unfolding decimal
from_ten n h =
    enough n (suc n) n (omega arith) (omega arith)
    ∙ more n n h
    ∙ ap (λ (l : List ℕ). l ++ (digit (n % 10) ∷ [])) (enough n (n / 10) (n / 10) (omega arith) (omega arith))

pub one_more : (n : ℕ) → 10 ≤ n → length (decimal n) ≡ length (decimal (n / 10)) + 1
one_more n h = rw (from_ten n h, length-append)

-- a number below a power of ten has as many digits as the power at most
pub at_most : (k n : ℕ) → n < 10 ^ suc k → length (decimal n) ≤ suc k
at_most zero n h = rw (below_ten n (omega arith)) (omega arith)
at_most (suc k) n h =
    ⊎_elim (λ p. rw (below_ten n p) (omega arith))
    (λ q. omega (arith, one_more n q, at_most k (n / 10) (omega (arith, pow-suc 10 (suc k)))))
    (either n)

-- ---- what the library prints
appends : AppendsLastDigit decimal_in
unfolding decimal_in
appends = record { one = λ k n h. rw (lt-ltb n 10 h) refl; more = λ k n h. rw (le-ltb n 10 h) refl }

-- a number of two digits or more has no more of them than it counts
few : (n : ℕ) → 10 ≤ n → n < 2 ^ 64 → length (printed n) ≤ n
few n h w = rw (decimal_step n h w, length-append) (omega (arith, length-decimal-le_succ (n / 10) (omega arith)))

pub decimal_is : (n : ℕ) → n < 2 ^ 64 → decimal n ≡ printed n
unfolding decimal decimal_in
decimal_is zero w = sym (decimal_digit 0 (omega arith))
decimal_is (suc k) w = go (ltb (suc k) 10) refl
  where
    go : (b : Bool) → ltb (suc k) 10 ≡ b → decimal (suc k) ≡ printed (suc k)
    go true e = let h = ltb-true (suc k) 10 e in appends.one k (suc k) h ∙ sym (decimal_digit (suc k) h)
    go false e = let h = ltb-false (suc k) 10 e in decimal_from_appends decimal_in appends (suc k) (suc k) w (few (suc k) h w)
