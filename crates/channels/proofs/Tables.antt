-- A rule of all numbers below some bound, proved by one test that antt computes. Assumes nothing.
use Prim.Native.Nat.{ℕ, zero, suc, ◌<◌}
use mathlib.Core.Path.{◌≡◌, refl, sym, subst}
use mathlib.Core.Bool.{Bool, true, false, ◌&&◌, beq}
use native.Mathlib.Omega.{arith}
use lib.Dec.{T, eqb}
use borrow.Author.Tests.{eqb-true, eqb-false}

-- the test passes at every number below n
abbrev pub all_below : ℕ → (ℕ → Bool) → Bool
all_below zero p = true
all_below (suc n) p = p n && all_below n p

left : (a b : Bool) → T (a && b) → T a
left true b t = tt
left false b t = t

right : (a b : Bool) → T (a && b) → T b
right true b t = t
right false b t = absurd t

pub everywhere : (n : ℕ) (p : ℕ → Bool) → T (all_below n p) → (k : ℕ) → k < n → T (p k)
everywhere zero p t k h = absurd (omega arith)
everywhere (suc n) p t k h = go (eqb k n) refl (everywhere n p (right (p n) (all_below n p) t) k)
  where
    go : (b : Bool) → eqb k n ≡ b → (k < n → T (p k)) → T (p k)
    go true e ih = subst (λ (m : ℕ). T (p m)) (sym (eqb-true k n e)) (left (p n) (all_below n p) t)
    go false e ih = let f : k ≡ n → ⊥ = eqb-false k n e in ih (omega arith)

-- a test that two truth values are equal
pub same : (a b : Bool) → T (beq a b) → a ≡ b
same true true t = refl
same true false t = absurd t
same false true t = absurd t
same false false t = refl
