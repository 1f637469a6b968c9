-- The lines that raise their channels, as one set of eight bits. Assumes nothing.
use Prim.Native.Nat.{ℕ, zero, suc, ◌+◌, ◌*◌, ◌/◌, ◌%◌, ◌<◌}
use mathlib.Core.Path.{◌≡◌, refl, ap₂}
use mathlib.Core.Bool.{Bool, true, false, cond, not, ◌&&◌, ◌||◌, beq}
use mathlib.Core.List.{List, ◌∷◌}
use native.Mathlib.Omega.{arith}
use lib.Bits.{bit_and, bit_xor}
use lib.Dec.{eqb, ltb, eqb→eq}
use Rattle.channels.specs.Channels.{has, set_of, channel_of, line}
use Rattle.channels.specs.Raises.{Raises, raises_if, raised_by}
use Rattle.channels.proofs.Tables.{everywhere, same}
use Rattle.channels.proofs.Sets.{has_and, has_xor}
use Rattle.lines.specs.declared.Lines.{Lines}
use Rattle.signals.specs.Signals.{line_active, muted, line_raises, lines_below, of_inputs}
use Rattle.signals.specs.Private.{heard}

-- ---- the channels of a set of lines
-- the code's sum, at every byte, by one test
spread : ℕ → ℕ
spread w = w % 16 + w / 16 % 4 * 64 + w / 64 * 16384

pub spread_is : (w : ℕ) → w < 256 → w % 16 + w / 16 % 4 * 64 + w / 64 * 16384 ≡ raised_by (lines_below 8 (has w))
unfolding spread raised_by lines_below has set_of channel_of
spread_is w h = eqb→eq _ _ (everywhere 256 (λ (w : ℕ). eqb (spread w) (raised_by (lines_below 8 (has w)))) tt w h)

-- two properties that agree on the lines below n raise the same
pub lines_agree : (n : ℕ) (p q : ℕ → Bool) → ((i : ℕ) → i < n → p i ≡ q i) → lines_below n p ≡ lines_below n q
unfolding lines_below
lines_agree zero p q h = refl
lines_agree (suc n) p q h =
    ap₂ (λ (b : Bool) (rs : List Raises). raises_if b (channel_of (line n)) ∷ rs) (h n (omega arith)) (lines_agree n p q (λ i l. h i (omega arith)))

-- ---- one line
has_all : (i : ℕ) → i < 8 → has 255 i ≡ true
unfolding has
has_all i h = same _ _ (everywhere 8 (λ (i : ℕ). beq (has 255 i) true) tt i h)

heard_is : (a b : Bool) (i : ℕ) → i < 8 → has (heard a b) i ≡ not (eqb i 4 && a || eqb i 3 && b)
unfolding has
heard_is true true i h = same _ _ (everywhere 8 (λ (i : ℕ). beq (has 231 i) (not (eqb i 4 && true || eqb i 3 && true))) tt i h)
heard_is true false i h = same _ _ (everywhere 8 (λ (i : ℕ). beq (has 239 i) (not (eqb i 4 && true || eqb i 3 && false))) tt i h)
heard_is false true i h = same _ _ (everywhere 8 (λ (i : ℕ). beq (has 247 i) (not (eqb i 4 && false || eqb i 3 && true))) tt i h)
heard_is false false i h = same _ _ (everywhere 8 (λ (i : ℕ). beq (has 255 i) (not (eqb i 4 && false || eqb i 3 && false))) tt i h)

beq_comm : (a b : Bool) → beq a b ≡ beq b a
beq_comm true true = refl
beq_comm true false = refl
beq_comm false true = refl
beq_comm false false = refl

flip : (b : Bool) → not (beq b true) ≡ not b
flip true = refl
flip false = refl

twice : (b : Bool) → not (not b) ≡ b
twice true = refl
twice false = refl

-- a line that was inactive, is active, is an input and is heard
pub raising : (a b : Bool) (before after : Lines) (o : ℕ) → o ≡ heard a b → (i : ℕ) → i < 8
    → has (bit_and (bit_and (bit_and (bit_xor before.aer before.levels) (bit_xor (bit_xor after.aer after.levels) 255)) (bit_xor before.ddr 255)) o) i
    ≡ line_raises (of_inputs a b) before after i
unfolding line_raises line_active muted
raising a b before after o e i h =
    rw e
    (simp (has_and, has_xor, has_all i h)
    (rw (heard_is a b i h, flip (not (beq (has after.aer i) (has after.levels i))), flip (has before.ddr i), twice, beq_comm (has before.aer i), beq_comm (has after.aer i)) refl))

-- ---- the channels of lines and inputs together
-- a raise that is made once or not at all
pub once_raised : (b : Bool) → ltb 0 (cond b 1 0) ≡ b
once_raised true = refl
once_raised false = refl
