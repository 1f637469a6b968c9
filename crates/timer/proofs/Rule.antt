-- What happens to a timer keeps its part of the image rule: its position stays below its divisor, and 0 in modes 0 and 8.
-- Assumes nothing.
use Prim.Native.Nat.{ℕ, zero, suc, ◌%◌}
use mathlib.Core.Path.{◌≡◌, refl, sym, ap, ap₂, ◌∙◌}
use mathlib.Core.Bool.{Bool, true, false, cond}
use native.Mathlib.Nat.{le_trans}
use lib.Dec.{eqb, ltb, lit≤}
use borrow.Author.Tests.{ne_eqb, eqb-true, eqb-false, lt-ltb}
use Rattle.timer.specs.declared.Timer.{Timer}
use Rattle.timer.specs.Timers.{divisor, runs, pulsed, clocked, clocks, controlled, reload_written, reset_timer, position_rule}
use Rattle.timer.proofs.Pulsed.{pulsed_mode, pulsed_position}
use Rattle.timer.proofs.Clocked.{divisor_runs, running_row, clock_idle, clocked_mode, clocked_runs, clocked_below}

-- the rule looks at the mode and the position alone
abbrev rule : ℕ → ℕ → Bool
rule mode position = cond (eqb (mode % 8) 0) (eqb position 0) (ltb position (divisor mode))

at_rule : (t : Timer) → position_rule t ≡ rule t.mode t.position
unfolding position_rule
at_rule t = refl

-- position 0 keeps it in every mode
zero_ruled : (mode : ℕ) → rule mode 0 ≡ true
zero_ruled mode = go (eqb (mode % 8) 0) refl
  where
    go : (b : Bool) → eqb (mode % 8) 0 ≡ b → rule mode 0 ≡ true
    go true e = rw e refl
    go false e = rw (e, lt-ltb 0 (divisor mode) (le_trans (lit≤ tt) (divisor_runs mode (eqb-false _ _ e)))) refl

module _ (t : Timer) (r : position_rule t ≡ true) where
  pub pulsed_ruled : position_rule (pulsed t) ≡ true
  pulsed_ruled = at_rule (pulsed t) ∙ ap₂ rule (pulsed_mode t) (pulsed_position t) ∙ sym (at_rule t) ∙ r

  clocked_ruled : (active : Bool) → position_rule (clocked active t) ≡ true
  clocked_ruled active = go (runs active t) refl
    where
      go : (b : Bool) → runs active t ≡ b → position_rule (clocked active t) ≡ true
      go true e =
          at_rule (clocked active t)
          ∙ rw (ne_eqb ((clocked active t).mode % 8) 0 (running_row active (clocked active t) (clocked_runs active t e))) (lt-ltb _ _ (clocked_below active t e))
      go false e = ap position_rule (clock_idle active t e) ∙ r

  pub controlled_ruled : (mode : ℕ) (low : Bool) → position_rule (controlled mode low t) ≡ true
  unfolding controlled
  controlled_ruled mode low = at_rule (controlled mode low t) ∙ go (eqb mode t.mode) refl
    where
      go : (b : Bool) → eqb mode t.mode ≡ b → rule mode (cond (eqb mode t.mode) t.position 0) ≡ true
      go true e = rw e (ap (λ (m : ℕ). rule m t.position) (eqb-true mode t.mode e) ∙ sym (at_rule t) ∙ r)
      go false e = rw e (zero_ruled mode)

  pub written_ruled : (v : ℕ) → position_rule (reload_written v t) ≡ true
  unfolding reload_written
  written_ruled v = at_rule (reload_written v t) ∙ sym (at_rule t) ∙ r

  pub reset_ruled : position_rule (reset_timer t) ≡ true
  reset_ruled = at_rule (reset_timer t) ∙ zero_ruled 0

pub clocks_ruled : (active : Bool) (n : ℕ) (t : Timer) → position_rule t ≡ true → position_rule (clocks active n t) ≡ true
unfolding clocks
clocks_ruled active zero t r = r
clocks_ruled active (suc n) t r = clocks_ruled active n (clocked active t) (clocked_ruled t r active)

-- ---- nor do clocks and pulses move the mode
pub clocks_mode : (active : Bool) (n : ℕ) (t : Timer) → (clocks active n t).mode ≡ t.mode
unfolding clocks
clocks_mode active zero t = refl
clocks_mode active (suc n) t = clocks_mode active n (clocked active t) ∙ go (runs active t) refl
  where
    go : (b : Bool) → runs active t ≡ b → (clocked active t).mode ≡ t.mode
    go true e = clocked_mode active t e
    go false e = ap (λ (u : Timer). u.mode) (clock_idle active t e)
