-- n clocks at once, proved once over the divisor: a timer's position is a countdown of clocks, and each time it runs out the counter takes a pulse.
-- It serves delay and pulse-width modes and all four timers. Assumes nothing.
use Prim.Native.Nat.{ℕ, zero, suc, ◌+◌, ◌-◌, ◌≤◌, ◌<◌}
use mathlib.Core.Path.{◌≡◌, refl, sym, ap, ap₂, ◌∙◌}
use mathlib.Core.Bool.{Bool, true, false, cond}
use native.Mathlib.Omega.{arith}
use native.Mathlib.Numerals.{one-add}
use native.Mathlib.Nat.{zero-add, sub-zero, le_refl}
use lib.Dec.{eqb, leb, ltb}
use borrow.Author.Tests.{lt-ltb, ltb-true, ne_eqb}
use Rattle.timer.specs.declared.Timer.{Timer}
use Rattle.timer.specs.Timers.{divisor, runs, with_position, timeout, reloaded, counted_down, pulsed, clocked, reloads, clocks, timeouts}
use Rattle.timer.proofs.Pulsed.{pulsed_position}
use Rattle.timer.proofs.Clocked.{by_clock, least, clocked_mode, clocked_runs, clocked_below, reloads_pulse, reloads_clock}
use Rattle.countdown.specs.Countdown.{unit, left, ran_out, to_go, toggled, pulses_in, position_after, timeouts_in, counter_after}
use Rattle.countdown.proofs.Pulses.{pulses, pulse_reloads, pulses_count, pulses_at_once, at_pulse}

-- ---- a timer that does not run
pub idle_clocks : (active : Bool) (n : ℕ) (t : Timer) → runs active t ≡ false → clocks active n t ≡ t
unfolding clocks clocked
idle_clocks active zero t h = refl
idle_clocks active (suc n) t h = rw h (idle_clocks active n t h)

pub idle_timeouts : (active : Bool) (n : ℕ) (t : Timer) → runs active t ≡ false → timeouts active n t ≡ 0
unfolding timeouts clocked reloads
idle_timeouts active zero t h = refl
idle_timeouts active (suc n) t h = rw h (zero-add _ ∙ idle_timeouts active n t h)

-- ---- a timer that runs, over the divisor d
-- one clock
abbrev turn : ℕ → Timer → Timer
turn d t = cond (leb d (t.position + 1)) (pulsed (with_position 0 t)) (with_position (t.position + 1) t)

-- a pulse moves no position
pulsed_at : (p : ℕ) (t : Timer) → with_position p (pulsed (with_position 0 t)) ≡ pulsed (with_position p t)
unfolding pulsed reloaded counted_down
pulsed_at p t = go (eqb t.counter 1)
  where
    go : (b : Bool) → with_position p (cond b (reloaded (with_position 0 t)) (counted_down (with_position 0 t))) ≡ cond b (reloaded (with_position p t)) (counted_down (with_position p t))
    go true = refl
    go false = refl

-- the clocks to go, and one clock as a unit of that countdown
to_go_below : (d p : ℕ) → p < d → to_go d p ≡ d - p
unfolding to_go
to_go_below d p h = rw (lt-ltb p d h)

pub to_go_bounds : (d p : ℕ) → 1 ≤ d → (1 ≤ to_go d p) × (to_go d p ≤ d)
unfolding to_go
to_go_bounds d p q = go (ltb p d) refl
  where
    go : (b : Bool) → ltb p d ≡ b → (1 ≤ cond (ltb p d) (d - p) 1) × (cond (ltb p d) (d - p) 1 ≤ d)
    go true e = let f : p < d = ltb-true _ _ e in rw e (omega arith, omega arith)
    go false e = rw e (le_refl 1, q)

unit_clock : (d p : ℕ) → p + 1 < d → to_go d (p + 1) ≡ unit d (to_go d p)
unfolding unit
unit_clock d p h = rw (to_go_below d (p + 1) h, to_go_below d p (omega arith), ne_eqb (d - p) 1 (omega arith)) (omega arith)

unit_pulse : (d p : ℕ) → 1 ≤ d → d ≤ p + 1 → unit d (to_go d p) ≡ d
unfolding unit to_go
unit_pulse d p q h = go (ltb p d) refl
  where
    go : (b : Bool) → ltb p d ≡ b → cond (eqb (cond (ltb p d) (d - p) 1) 1) d (cond (ltb p d) (d - p) 1 - 1) ≡ d
    go true e = let f : p < d = ltb-true _ _ e in let g : d - p ≡ 1 = omega arith in rw (e, g) refl
    go false e = rw e refl

-- the last clock of a period is the one that gives the pulse
last_clock : (d p : ℕ) → 1 ≤ d → d ≤ p + 1 → eqb (to_go d p) 1 ≡ true
unfolding to_go
last_clock d p q h = go (ltb p d) refl
  where
    go : (b : Bool) → ltb p d ≡ b → eqb (cond (ltb p d) (d - p) 1) 1 ≡ true
    go true e = let f : p < d = ltb-true _ _ e in let g : d - p ≡ 1 = omega arith in rw (e, g) refl
    go false e = rw e refl

early_clock : (d p : ℕ) → p + 1 < d → eqb (to_go d p) 1 ≡ false
early_clock d p h = rw (to_go_below d p (omega arith)) (ne_eqb (d - p) 1 (omega arith))

-- the timer after n clocks, and the reloads that they made
abbrev after : ℕ → ℕ → ℕ → Timer → Timer
after d n first t = pulses (ran_out d n first) (with_position (d - left d n first) t)

abbrev made : ℕ → ℕ → ℕ → Timer → ℕ
made d n first t = pulse_reloads (ran_out d n first) (with_position 0 t)

module _ (d n : ℕ) (t : Timer) where
  after_none : t.position < d → after d 0 (to_go d t.position) t ≡ t
  unfolding pulses ran_out left
  after_none h = ap (λ (q : ℕ). with_position q t) (rw (to_go_below d t.position h) (omega arith))

  after_clock : t.position + 1 < d → after d n (to_go d (t.position + 1)) (with_position (t.position + 1) t) ≡ after d (suc n) (to_go d t.position) t
  unfolding ran_out left
  after_clock h = rw (early_clock d t.position h, zero-add, ← unit_clock d t.position h) refl

  after_pulse : 1 ≤ d → d ≤ t.position + 1 → after d n (to_go d 0) (pulsed (with_position 0 t)) ≡ after d (suc n) (to_go d t.position) t
  unfolding ran_out left pulses
  after_pulse q h = rw (last_clock d t.position q h, unit_pulse d t.position q h, one-add, to_go_below d 0 q, sub-zero) (ap (pulses (ran_out d n d)) (pulsed_at (d - left d n d) t))

  made_clock : t.position + 1 < d → made d n (to_go d (t.position + 1)) (with_position (t.position + 1) t) ≡ made d (suc n) (to_go d t.position) t
  unfolding ran_out
  made_clock h = rw (early_clock d t.position h, zero-add, ← unit_clock d t.position h) refl

  made_pulse : 1 ≤ d → d ≤ t.position + 1 → cond (timeout t) 1 0 + made d n (to_go d 0) (pulsed (with_position 0 t)) ≡ made d (suc n) (to_go d t.position) t
  unfolding ran_out pulse_reloads
  made_pulse q h = rw (last_clock d t.position q h, unit_pulse d t.position q h, one-add, to_go_below d 0 q, sub-zero) (ap (λ (u : Timer). cond (eqb t.counter 1) 1 0 + pulse_reloads (ran_out d n d) u) (pulsed_at 0 t))

-- ---- the law
abbrev ended : ℕ → Timer → Timer
ended n t = after (divisor t.mode) n (to_go (divisor t.mode) t.position) t

abbrev counted : ℕ → Timer → ℕ
counted n t = made (divisor t.mode) n (to_go (divisor t.mode) t.position) t

module _ (active : Bool) (t : Timer) (h : runs active t ≡ true) where
  -- n clocks more end where n + 1 of the timer do, and make the reloads that those make after the first
  clocked_ended : (n : ℕ) → ended n (clocked active t) ≡ ended (suc n) t
  clocked_ended n =
      ap (λ (d : ℕ). after d n (to_go d (clocked active t).position) (clocked active t)) (ap divisor (clocked_mode active t h))
      ∙ by_clock active t h (λ u. after (divisor t.mode) n (to_go (divisor t.mode) u.position) u ≡ ended (suc n) t)
      (λ e. ap (λ (q : ℕ). after (divisor t.mode) n (to_go (divisor t.mode) q) (pulsed (with_position 0 t))) (pulsed_position (with_position 0 t)) ∙ after_pulse (divisor t.mode) n t (least active t h) e)
      (λ e. after_clock (divisor t.mode) n t e)

  clocked_counted : (n : ℕ) → reloads active t + counted n (clocked active t) ≡ counted (suc n) t
  clocked_counted n =
      ap (λ (d : ℕ). reloads active t + made d n (to_go d (clocked active t).position) (clocked active t)) (ap divisor (clocked_mode active t h))
      ∙ by_clock active t h (λ u. reloads active t + made (divisor t.mode) n (to_go (divisor t.mode) u.position) u ≡ counted (suc n) t)
      (λ e. ap₂ (λ (r q : ℕ). r + made (divisor t.mode) n (to_go (divisor t.mode) q) (pulsed (with_position 0 t))) (reloads_pulse active t h e) (pulsed_position (with_position 0 t)) ∙ made_pulse (divisor t.mode) n t (least active t h) e)
      (λ e. ap (λ (r : ℕ). r + made (divisor t.mode) n (to_go (divisor t.mode) (t.position + 1)) (with_position (t.position + 1) t)) (reloads_clock active t h e) ∙ zero-add _ ∙ made_clock (divisor t.mode) n t e)

-- n clocks of a timer that runs, its position below its divisor
clocks_below : (active : Bool) (n : ℕ) (t : Timer) → runs active t ≡ true → t.position < divisor t.mode → clocks active n t ≡ ended n t
unfolding clocks
clocks_below active zero t h p = sym (after_none (divisor t.mode) 0 t p)
clocks_below active (suc n) t h p =
    clocks_below active n (clocked active t) (clocked_runs active t h) (clocked_below active t h) ∙ clocked_ended active t h n

-- and of any that runs, from the first clock on
clocks_running : (active : Bool) (n : ℕ) (t : Timer) → runs active t ≡ true → clocks active (suc n) t ≡ ended (suc n) t
unfolding clocks
clocks_running active n t h =
    clocks_below active n (clocked active t) (clocked_runs active t h) (clocked_below active t h) ∙ clocked_ended active t h n

timeouts_running : (active : Bool) (n : ℕ) (t : Timer) → runs active t ≡ true → timeouts active n t ≡ counted n t
unfolding timeouts ran_out pulse_reloads
timeouts_running active zero t h = refl
timeouts_running active (suc n) t h =
    ap (λ (m : ℕ). reloads active t + m) (timeouts_running active n (clocked active t) (clocked_runs active t h)) ∙ clocked_counted active t h n

-- ---- the law, as the code computes it
-- the timer after n clocks, n not 0
abbrev pub at_once : ℕ → Timer → Timer
at_once n t = record {
  mode = t.mode;
  reload = t.reload;
  counter = counter_after (pulses_in n t) t;
  position = position_after n t;
  output = toggled (timeouts_in (pulses_in n t) t) t.output;
}

pub clocks_at_once : (active : Bool) (n : ℕ) (t : Timer) → runs active t ≡ true → t.reload < 256 → t.counter < 256 → (n ≡ 0 → ⊥) → clocks active n t ≡ at_once n t
unfolding pulses_in position_after timeouts_in counter_after at_pulse
clocks_at_once active zero t h r k p = absurd (p refl)
clocks_at_once active (suc n) t h r k p = clocks_running active n t h ∙ pulses_at_once (pulses_in (suc n) t) (with_position (position_after (suc n) t) t) r k

pub timeouts_at_once : (active : Bool) (n : ℕ) (t : Timer) → runs active t ≡ true → timeouts active n t ≡ timeouts_in (pulses_in n t) t
unfolding pulses_in timeouts_in
timeouts_at_once active n t h = timeouts_running active n t h ∙ pulses_count (pulses_in n t) (with_position 0 t)
