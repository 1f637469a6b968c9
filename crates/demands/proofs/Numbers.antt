-- "four bytes, high byte first": they hold every number up to 4,294,967,295, in a record and in an answer's counts. Assumes nothing.
use Prim.Native.Nat.{ℕ, zero, suc, ◌+◌, ◌*◌, ◌/◌, ◌%◌, ◌≤◌, ◌<◌}
use mathlib.Core.Path.{◌≡◌, refl, sym, ap, ◌∙◌}
use mathlib.Core.List.{List, [], ◌∷◌}
use native.Mathlib.Nat.{div-add-mod', div-div-eq-div-mul, mod-eq_of_lt}
use native.Mathlib.Omega.{arith}
use lib.ListN.{get_or}
use Rattle.timeouts.specs.declared.Timeouts.{Timeouts}
use Rattle.device.specs.declared.Stepped.{Stepped}
use Rattle.timeouts.specs.Clocks.{add_timeouts}
use Rattle.bits.specs.Bytes.{number}
use Rattle.bits.specs.Bytes.{four}
use Rattle.answer.specs.Answers.{answer_of}
use Rattle.demands.specs.Tapes.{most_clocks, number_at, count_at}

-- a byte of n, and all above it
byte_of : (n m : ℕ) → n / (m * 256) * 256 + n / m % 256 ≡ n / m
byte_of n m = ap (λ (x : ℕ). x * 256 + n / m % 256) (sym (div-div-eq-div-mul n m 256)) ∙ div-add-mod' (n / m) 256

-- the number in the four bytes of n is n
pub number_of_four : (n : ℕ) (rest : List ℕ) → n ≤ most_clocks → number_at (four n rest) 0 ≡ n
unfolding number
number_of_four n rest h =
    let top : n / 16777216 % 256 ≡ n / 16777216 = mod-eq_of_lt (omega arith) in
    omega (arith, byte_of n 65536, byte_of n 256, div-add-mod' n 256)

-- ---- the counts of an answer
-- count k, of A, B, C and D
abbrev pub count : ℕ → Timeouts → ℕ
count k t = get_or (t.a ∷ t.b ∷ t.c ∷ t.d ∷ []) k 0

pub counts_add : (k : ℕ) (s t : Timeouts) → count k (add_timeouts s t) ≡ count k s + count k t
counts_add zero s t = refl
counts_add (suc zero) s t = refl
counts_add (suc (suc zero)) s t = refl
counts_add (suc (suc (suc zero))) s t = refl
counts_add (suc (suc (suc (suc k)))) s t = refl

pub count_written : (k : ℕ) (s : Stepped) → k < 4 → count k s.timeouts ≤ most_clocks → count_at k (answer_of s) ≡ count k s.timeouts
unfolding answer_of
count_written zero s h l = number_of_four s.timeouts.a [] l
count_written (suc zero) s h l = number_of_four s.timeouts.b [] l
count_written (suc (suc zero)) s h l = number_of_four s.timeouts.c [] l
count_written (suc (suc (suc zero))) s h l = number_of_four s.timeouts.d [] l
count_written (suc (suc (suc (suc k)))) s h l = absurd (omega arith)
