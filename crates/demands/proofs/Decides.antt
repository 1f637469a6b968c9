-- A test decides a condition if it passes exactly where the condition holds. Assumes nothing.
use Prim.Native.Nat.{ℕ, ◌≤◌, ◌<◌}
use mathlib.Core.Path.{◌≡◌, refl, sym, ◌∙◌}
use mathlib.Core.Bool.{Bool, true, false, ◌&&◌, false≢true}
use mathlib.Core.Logic.{◌↔◌}
use lib.Dec.{eqb, leb, ltb}
use Rattle.bits.proofs.Bits.{halves, joined}
use borrow.Author.Tests.{eqb-true, eq-eqb, leb-true, le-leb, ltb-true, lt-ltb}

abbrev pub Decides : Bool → Type 0 → Type 0
Decides t P = (t ≡ true) ↔ P

pub equal_decided : (m n : ℕ) → Decides (eqb m n) (m ≡ n)
equal_decided m n = (eqb-true m n, eq-eqb m n)

pub most_decided : (m n : ℕ) → Decides (leb m n) (m ≤ n)
most_decided m n = (leb-true m n, le-leb m n)

pub below_decided : (m n : ℕ) → Decides (ltb m n) (m < n)
below_decided m n = (ltb-true m n, lt-ltb m n)

pub both_decided : (s t : Bool) {P Q : Type 0} → Decides s P → Decides t Q → Decides (s && t) (P × Q)
both_decided s t p q = (λ e. let h = halves s t e in (p.0 h.0, q.0 h.1), λ b. joined s t (p.1 b.0) (q.1 b.1))

-- where the condition does not hold the test fails, and the other way round
pub not_passed : (t : Bool) {P : Type 0} → Decides t P → (P → ⊥) → t ≡ false
not_passed true d f = absurd (f (d.0 refl))
not_passed false d f = refl

pub not_held : (t : Bool) {P : Type 0} → Decides t P → t ≡ false → P → ⊥
not_held t d e p = false≢true (sym e ∙ d.1 p)
