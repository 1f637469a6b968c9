-- One clock: its three cases, the divisor of a timer that runs, and what the clock leaves. Assumes nothing.
use Prim.Native.Nat.{ℕ, zero, suc, ◌+◌, ◌%◌, ◌≤◌, ◌<◌}
use mathlib.Core.Path.{◌≡◌, refl, ap, ◌∙◌}
use mathlib.Core.Bool.{Bool, true, false, cond, ◌&&◌, ◌||◌, false≢true}
use mathlib.Core.List.{[], ◌∷◌}
use native.Mathlib.Omega.{arith}
use native.Mathlib.Nat.{le_trans}
use lib.Dec.{leb, lit≤}
use lib.ListN.{get_or}
use borrow.Author.Tests.{le-leb, lt-leb, leb-true, leb-false}
use Rattle.timer.specs.declared.Timer.{Timer}
use Rattle.timer.specs.Timers.{divisor, delay, pulse_width, runs, with_position, timeout, pulsed, at_divisor, clocked, reloads}
use Rattle.timer.proofs.Pulsed.{pulsed_mode, pulsed_position}

-- ---- one clock, in its three cases
pub clock_idle : (active : Bool) (t : Timer) → runs active t ≡ false → clocked active t ≡ t
unfolding clocked
clock_idle active t h = rw h refl

pub clock_pulse : (active : Bool) (t : Timer) → runs active t ≡ true → divisor t.mode ≤ t.position + 1 → clocked active t ≡ pulsed (with_position 0 t)
unfolding clocked at_divisor
clock_pulse active t h e = rw (h, le-leb _ _ e) refl

pub clock_on : (active : Bool) (t : Timer) → runs active t ≡ true → t.position + 1 < divisor t.mode → clocked active t ≡ with_position (t.position + 1) t
unfolding clocked at_divisor
clock_on active t h e = rw (h, lt-leb _ _ e) refl

-- ---- a running timer's own divisor
divisor_least : (k : ℕ) → 1 ≤ k → k < 8 → 4 ≤ get_or (0 ∷ 4 ∷ 10 ∷ 16 ∷ 50 ∷ 64 ∷ 100 ∷ 200 ∷ []) k 0
divisor_least zero p h = absurd (omega arith)
divisor_least (suc zero) p h = lit≤ tt
divisor_least (suc (suc zero)) p h = lit≤ tt
divisor_least (suc (suc (suc zero))) p h = lit≤ tt
divisor_least (suc (suc (suc (suc zero)))) p h = lit≤ tt
divisor_least (suc (suc (suc (suc (suc zero))))) p h = lit≤ tt
divisor_least (suc (suc (suc (suc (suc (suc zero)))))) p h = lit≤ tt
divisor_least (suc (suc (suc (suc (suc (suc (suc zero))))))) p h = lit≤ tt
divisor_least (suc (suc (suc (suc (suc (suc (suc (suc k)))))))) p h = absurd (omega arith)

between : (low high mode : ℕ) → leb low mode && leb mode high ≡ true → (low ≤ mode) × (mode ≤ high)
between low high mode e = go (leb low mode) (leb mode high) refl refl e
  where
    go : (a b : Bool) → leb low mode ≡ a → leb mode high ≡ b → a && b ≡ true → (low ≤ mode) × (mode ≤ high)
    go true true p q e = (leb-true _ _ p, leb-true _ _ q)
    go true false p q e = absurd (false≢true e)
    go false true p q e = absurd (false≢true e)
    go false false p q e = absurd (false≢true e)

pub divisor_runs : (mode : ℕ) → (mode % 8 ≡ 0 → ⊥) → 4 ≤ divisor mode
unfolding divisor
divisor_runs mode h = divisor_least (mode % 8) (omega arith) (omega arith)

pub running_row : (active : Bool) (t : Timer) → runs active t ≡ true → t.mode % 8 ≡ 0 → ⊥
unfolding runs delay pulse_width
running_row active t h z = go (delay t.mode) (pulse_width t.mode) refl refl h
  where
    go : (a b : Bool) → delay t.mode ≡ a → pulse_width t.mode ≡ b → (a || b && active) ≡ true → ⊥
    go true b p q e = let w : (1 ≤ t.mode) × (t.mode ≤ 7) = between 1 7 t.mode p in omega arith
    go false true p q e = let w : (9 ≤ t.mode) × (t.mode ≤ 15) = between 9 15 t.mode q in omega arith
    go false false p q e = false≢true e

pub running_divisor : (active : Bool) (t : Timer) → runs active t ≡ true → 4 ≤ divisor t.mode
running_divisor active t h = divisor_runs t.mode (running_row active t h)

-- ---- what one clock leaves of a timer that runs
same_runs : (active : Bool) (u t : Timer) → u.mode ≡ t.mode → runs active u ≡ runs active t
unfolding runs
same_runs active u t e = ap (λ (m : ℕ). delay m || pulse_width m && active) e

module _ (active : Bool) (t : Timer) (h : runs active t ≡ true) where
  pub by_clock : (P : Timer → Type 0) → (divisor t.mode ≤ t.position + 1 → P (pulsed (with_position 0 t))) → (t.position + 1 < divisor t.mode → P (with_position (t.position + 1) t)) → P (clocked active t)
  unfolding clocked at_divisor
  by_clock P f g = rw h (go (leb (divisor t.mode) (t.position + 1)) refl)
    where
      go : (b : Bool) → leb (divisor t.mode) (t.position + 1) ≡ b → P (cond b (pulsed (with_position 0 t)) (with_position (t.position + 1) t))
      go true e = f (leb-true _ _ e)
      go false e = g (leb-false _ _ e)

  pub least : 1 ≤ divisor t.mode
  least = le_trans (lit≤ tt) (running_divisor active t h)

  pub clocked_mode : (clocked active t).mode ≡ t.mode
  clocked_mode = by_clock (λ u. u.mode ≡ t.mode) (λ e. pulsed_mode (with_position 0 t)) (λ e. refl)

  pub clocked_runs : runs active (clocked active t) ≡ true
  clocked_runs = same_runs active (clocked active t) t clocked_mode ∙ h

  pub clocked_below : (clocked active t).position < divisor (clocked active t).mode
  clocked_below = rw clocked_mode (by_clock (λ u. u.position < divisor t.mode) (λ e. rw (pulsed_position (with_position 0 t)) least) (λ e. e))

  pub reloads_pulse : divisor t.mode ≤ t.position + 1 → reloads active t ≡ cond (timeout t) 1 0
  unfolding reloads at_divisor
  reloads_pulse e = rw (h, le-leb _ _ e) refl

  pub reloads_clock : t.position + 1 < divisor t.mode → reloads active t ≡ 0
  unfolding reloads at_divisor
  reloads_clock e = rw (h, lt-leb _ _ e) refl
