-- k count pulses at once: a timer's counter is a countdown of pulses from the data value. Assumes nothing.
use Prim.Native.Nat.{ℕ, zero, suc, ◌+◌, ◌-◌, ◌%◌, ◌≤◌, ◌<◌}
use mathlib.Core.Path.{◌≡◌, refl, sym, ap, ap₂, ◌∙◌}
use mathlib.Core.Bool.{Bool, true, false, cond, not}
use native.Mathlib.Omega.{arith}
use native.Mathlib.Nat.{mod-eq_of_lt, zero-add}
use lib.Dec.{eqb}
use borrow.Author.Tests.{eq-eqb, ne_eqb, eqb-true, eqb-false}
use Rattle.timer.specs.declared.Timer.{Timer}
use Rattle.timer.specs.Timers.{timeout, reloaded, counted_down, pulsed}
use Rattle.timer.proofs.Pulsed.{by_timeout, pulsed_mode, pulsed_reload, pulsed_position, pulsed_output}
use Rattle.countdown.specs.Countdown.{unit, left, ran_out, span, toggled}

-- k pulses, and the reloads that they make
unfoldable pub pulses : ℕ → Timer → Timer
pulses zero t = t
pulses (suc k) t = pulses k (pulsed t)

unfoldable pub pulse_reloads : ℕ → Timer → ℕ
pulse_reloads zero t = 0
pulse_reloads (suc k) t = cond (timeout t) 1 0 + pulse_reloads k (pulsed t)

-- ---- a counter as a countdown
pub span_pos : (v : ℕ) → 1 ≤ span v
unfolding span
span_pos v = go (eqb v 0) refl
  where
    go : (b : Bool) → eqb v 0 ≡ b → 1 ≤ cond (eqb v 0) 256 v
    go true e = rw e (omega arith)
    go false e = let f : v ≡ 0 → ⊥ = eqb-false _ _ e in rw e (omega arith)

-- a byte is its span cut to eight bits
span_byte : (v : ℕ) → v < 256 → span v % 256 ≡ v
unfolding span
span_byte v h = go (eqb v 0) refl
  where
    go : (b : Bool) → eqb v 0 ≡ b → cond (eqb v 0) 256 v % 256 ≡ v
    go true e = rw e (sym (eqb-true _ _ e))
    go false e = rw e (mod-eq_of_lt h)

-- at 1, and nowhere else, the countdown runs out: counter 0 is no timeout
span_last : (v : ℕ) → eqb (span v) 1 ≡ eqb v 1
unfolding span
span_last v = go (eqb v 0) refl
  where
    go : (b : Bool) → eqb v 0 ≡ b → eqb (cond (eqb v 0) 256 v) 1 ≡ eqb v 1
    go true e = ap (λ (x : ℕ). eqb (cond (eqb x 0) 256 x) 1) (eqb-true v 0 e) ∙ sym (ap (λ (x : ℕ). eqb x 1) (eqb-true v 0 e))
    go false e = rw e refl

-- down by 1, and 0 to 255
span_down : (v : ℕ) → (v ≡ 1 → ⊥) → span (cond (eqb v 0) 255 (v - 1)) ≡ span v - 1
unfolding span
span_down v h = go (eqb v 0) refl
  where
    go : (b : Bool) → eqb v 0 ≡ b → span (cond (eqb v 0) 255 (v - 1)) ≡ span v - 1
    go true e = rw e refl
    go false e = let f : v ≡ 0 → ⊥ = eqb-false _ _ e in rw e (rw (ne_eqb (v - 1) 0 (omega arith)))

down_byte : (v : ℕ) → v < 256 → cond (eqb v 0) 255 (v - 1) < 256
down_byte v h = go (eqb v 0) refl
  where
    go : (b : Bool) → eqb v 0 ≡ b → cond (eqb v 0) 255 (v - 1) < 256
    go true e = rw e (omega arith)
    go false e = rw e (omega arith)

-- ---- outputs
toggled_more : (k : ℕ) (o : Bool) → toggled k (not o) ≡ toggled (1 + k) o
unfolding toggled
toggled_more k o = go (eqb (k % 2) 0) refl o
  where
    go : (b : Bool) → eqb (k % 2) 0 ≡ b → (x : Bool) → cond (eqb (k % 2) 0) (not x) (not (not x)) ≡ cond (eqb ((1 + k) % 2) 0) x (not x)
    go true e x = let f : k % 2 ≡ 0 = eqb-true _ _ e in rw (e, ne_eqb ((1 + k) % 2) 0 (omega arith)) refl
    go false e true = let f : k % 2 ≡ 0 → ⊥ = eqb-false _ _ e in rw (e, eq-eqb ((1 + k) % 2) 0 (omega arith)) refl
    go false e false = let f : k % 2 ≡ 0 → ⊥ = eqb-false _ _ e in rw (e, eq-eqb ((1 + k) % 2) 0 (omega arith)) refl

-- ---- one pulse, part by part
module _ (t : Timer) where
  pub pulsed_byte : t.reload < 256 → t.counter < 256 → (pulsed t).counter < 256
  unfolding reloaded counted_down
  pulsed_byte r h = by_timeout t (λ u. u.counter < 256) (λ e. r) (λ e. down_byte t.counter h)

  -- a timeout is the countdown's running out
  timeout_last : timeout t ≡ eqb (span t.counter) 1
  timeout_last = sym (span_last t.counter)

  -- and a pulse a unit of it
  pulsed_counter : span (pulsed t).counter ≡ unit (span t.reload) (span t.counter)
  unfolding reloaded counted_down unit
  pulsed_counter =
      by_timeout t (λ u. span u.counter ≡ unit (span t.reload) (span t.counter))
      (λ e. rw (span_last t.counter, e) refl)
      (λ e. rw (span_last t.counter, e) (span_down t.counter (eqb-false _ _ e)))

-- ---- k pulses at once
pub pulses_count : (k : ℕ) (t : Timer) → pulse_reloads k t ≡ ran_out (span t.reload) k (span t.counter)
unfolding pulse_reloads ran_out
pulses_count zero t = refl
pulses_count (suc k) t =
    ap₂ (λ (b : Bool) (m : ℕ). cond b 1 0 + m) (timeout_last t)
    (pulses_count k (pulsed t) ∙ ap₂ (λ (r x : ℕ). ran_out (span r) k x) (pulsed_reload t) (pulsed_counter t))

toggled_unit : (b : Bool) (m : ℕ) (o : Bool) → toggled m (cond b (not o) o) ≡ toggled (cond b 1 0 + m) o
toggled_unit true m o = toggled_more m o
toggled_unit false m o = ap (λ (k : ℕ). toggled k o) (sym (zero-add m))

-- the timer with its counter and its output as the countdown has them
unfoldable pub at_pulse : ℕ → Timer → Timer
at_pulse k t = record {
  mode = t.mode;
  reload = t.reload;
  counter = left (span t.reload) k (span t.counter) % 256;
  position = t.position;
  output = toggled (ran_out (span t.reload) k (span t.counter)) t.output;
}

at_pulse_none : (t : Timer) → t.counter < 256 → t ≡ at_pulse 0 t
unfolding at_pulse left ran_out toggled
at_pulse_none t h = λ i. record { mode = t.mode; reload = t.reload; counter = sym (span_byte t.counter h) i; position = t.position; output = t.output }

at_pulse_more : (k : ℕ) (t : Timer) → at_pulse k (pulsed t) ≡ at_pulse (suc k) t
unfolding at_pulse left ran_out
at_pulse_more k t = λ i. record {
  mode = pulsed_mode t i;
  reload = pulsed_reload t i;
  counter = left (span (pulsed_reload t i)) k (pulsed_counter t i) % 256;
  position = pulsed_position t i;
  output = out i;
}
  where
    out : toggled (ran_out (span (pulsed t).reload) k (span (pulsed t).counter)) (pulsed t).output
        ≡ toggled (cond (eqb (span t.counter) 1) 1 0 + ran_out (span t.reload) k (unit (span t.reload) (span t.counter))) t.output
    out = ap₂ toggled (ap₂ (λ (x y : ℕ). ran_out (span x) k y) (pulsed_reload t) (pulsed_counter t)) (pulsed_output t)
        ∙ toggled_unit (timeout t) (ran_out (span t.reload) k (unit (span t.reload) (span t.counter))) t.output
        ∙ ap (λ (b : Bool). toggled (cond b 1 0 + ran_out (span t.reload) k (unit (span t.reload) (span t.counter))) t.output) (timeout_last t)

pub pulses_at_once : (k : ℕ) (t : Timer) → t.reload < 256 → t.counter < 256 → pulses k t ≡ at_pulse k t
unfolding pulses
pulses_at_once zero t r h = at_pulse_none t h
pulses_at_once (suc k) t r h =
    pulses_at_once k (pulsed t) (rw (pulsed_reload t) r) (pulsed_byte t r h) ∙ at_pulse_more k t
