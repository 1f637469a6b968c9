-- The closed form of a countdown, from its single units: while it has not run out, and once it has.
-- Assumes nothing.
use Prim.Native.Nat.{ℕ, zero, suc, ◌+◌, ◌-◌, ◌*◌, ◌/◌, ◌%◌, ◌≤◌, ◌<◌}
use mathlib.Core.Path.{◌≡◌, refl, sym, ap, ◌∙◌}
use mathlib.Core.Bool.{Bool, true, false, cond}
use native.Mathlib.Nat.{mod-eq-sub-mod, div-eq-sub-div, div-eq_of_lt, mod-eq_of_lt, mod-lt, div-add-mod', suc-mul, add_comm, zero-add}
use native.Mathlib.Omega.{arith}
use lib.Arith.{digits_div, digits_mod}
use lib.Dec.{eqb, ltb}
use borrow.Author.Tests.{ne_eqb, ltb-true, ltb-false, eqb-true, eqb-false}
use Rattle.countdown.specs.Countdown.{unit, left, ran_out}

-- at 1 a unit starts anew
unit_last : (period : ℕ) → unit period 1 ≡ period
unfolding unit
unit_last period = refl

-- above 1 it goes down
unit_down : (period first : ℕ) → (first ≡ 1 → ⊥) → unit period first ≡ first - 1
unfolding unit
unit_down period first h = rw (ne_eqb first 1 h)

-- ---- while it has not run out
pub left_before : (period n first : ℕ) → n < first → left period n first ≡ first - n
unfolding left
left_before period zero first h = omega arith
left_before period (suc n) first h = rw (unit_down period first (omega arith)) (left_before period n (first - 1) (omega arith) ∙ omega arith)

pub none_before : (period n first : ℕ) → n < first → ran_out period n first ≡ 0
unfolding ran_out
none_before period zero first h = refl
none_before period (suc n) first h = rw (ne_eqb first 1 (omega arith), unit_down period first (omega arith)) (omega (arith, none_before period n (first - 1) (omega arith)))

-- ---- once it has
-- n units from a new start, from what holds of those that have run out
start_left : (period n : ℕ) → 1 ≤ period → (period ≤ n → left period n period ≡ period - (n - period) % period) → left period n period ≡ period - n % period
start_left period n p h = go (ltb n period) refl
  where
    go : (b : Bool) → ltb n period ≡ b → left period n period ≡ period - n % period
    go true e = left_before period n period (ltb-true _ _ e) ∙ ap (λ (m : ℕ). period - m) (sym (mod-eq_of_lt (ltb-true _ _ e)))
    go false e = h (ltb-false _ _ e) ∙ ap (λ (m : ℕ). period - m) (sym (mod-eq-sub-mod (ltb-false _ _ e)))

start_times : (period n : ℕ) → 1 ≤ period → (period ≤ n → ran_out period n period ≡ (n - period) / period + 1) → ran_out period n period ≡ n / period
start_times period n p h = go (ltb n period) refl
  where
    go : (b : Bool) → ltb n period ≡ b → ran_out period n period ≡ n / period
    go true e = none_before period n period (ltb-true _ _ e) ∙ sym (div-eq_of_lt (ltb-true _ _ e))
    go false e = h (ltb-false _ _ e) ∙ sym (div-eq-sub-div p (ltb-false _ _ e))

-- one unit more, from what holds of n units from any place
left_step : (period n first : ℕ) → 1 ≤ period → 1 ≤ first → first ≤ suc n
    → ((f : ℕ) → 1 ≤ f → f ≤ n → left period n f ≡ period - (n - f) % period)
    → left period n (unit period first) ≡ period - (suc n - first) % period
left_step period n first p q h ih = go (eqb first 1) refl
  where
    go : (b : Bool) → eqb first 1 ≡ b → left period n (unit period first) ≡ period - (suc n - first) % period
    go true e = let f : first ≡ 1 = eqb-true _ _ e in
        rw (f, unit_last) (start_left period n p (ih period p) ∙ ap (λ (m : ℕ). period - m % period) (omega arith))
    go false e = let f : first ≡ 1 → ⊥ = eqb-false _ _ e in
        rw (unit_down period first f) (ih (first - 1) (omega arith) (omega arith) ∙ ap (λ (m : ℕ). period - m % period) (omega arith))

pub left_after : (period n first : ℕ) → 1 ≤ period → 1 ≤ first → first ≤ n → left period n first ≡ period - (n - first) % period
unfolding left
left_after period zero first p q h = absurd (omega arith)
left_after period (suc n) first p q h = left_step period n first p q h (λ f a b. left_after period n f p a b)

times_step : (period n first : ℕ) → 1 ≤ period → 1 ≤ first → first ≤ suc n
    → ((f : ℕ) → 1 ≤ f → f ≤ n → ran_out period n f ≡ (n - f) / period + 1)
    → cond (eqb first 1) 1 0 + ran_out period n (unit period first) ≡ (suc n - first) / period + 1
times_step period n first p q h ih = go (eqb first 1) refl
  where
    go : (b : Bool) → eqb first 1 ≡ b → cond (eqb first 1) 1 0 + ran_out period n (unit period first) ≡ (suc n - first) / period + 1
    go true e = let f : first ≡ 1 = eqb-true _ _ e in
        rw (f, unit_last) (ap (λ (m : ℕ). 1 + m) (start_times period n p (ih period p)) ∙ add_comm _ _ ∙ ap (λ (m : ℕ). m / period + 1) (omega arith))
    go false e = let f : first ≡ 1 → ⊥ = eqb-false _ _ e in
        rw (ne_eqb first 1 f, unit_down period first f) (zero-add _ ∙ ih (first - 1) (omega arith) (omega arith) ∙ ap (λ (m : ℕ). m / period + 1) (omega arith))

pub times_after : (period n first : ℕ) → 1 ≤ period → 1 ≤ first → first ≤ n → ran_out period n first ≡ (n - first) / period + 1
unfolding ran_out
times_after period zero first p q h = absurd (omega arith)
times_after period (suc n) first p q h = times_step period n first p q h (λ f a b. times_after period n f p a b)

-- ---- whether it has or not, for a countdown that is at most its period above what the units take
-- As if it had set out a period earlier: one more run-out than there were, and as much left.
module _ (period n first : ℕ) (p : 1 ≤ period) (q : 1 ≤ first) (h : first ≤ n + period) where
  pub left_either : left period n first ≡ period - (n + period - first) % period
  left_either = go (ltb n first) refl
    where
      go : (b : Bool) → ltb n first ≡ b → left period n first ≡ period - (n + period - first) % period
      go true e =
          let l : n < first = ltb-true n first e in
          let m : (n + period - first) % period ≡ n + period - first = mod-eq_of_lt (omega arith) in
          left_before period n first l ∙ omega arith
      go false e =
          let l : first ≤ n = ltb-false n first e in
          left_after period n first p q l
          ∙ ap (λ (m : ℕ). period - m) (ap (λ (m : ℕ). m % period) (omega arith) ∙ sym (mod-eq-sub-mod {m = period} (omega arith)))

  pub times_either : ran_out period n first ≡ (n + period - first) / period
  times_either = go (ltb n first) refl
    where
      go : (b : Bool) → ltb n first ≡ b → ran_out period n first ≡ (n + period - first) / period
      go true e = let l : n < first = ltb-true n first e in none_before period n first l ∙ sym (div-eq_of_lt (omega arith))
      go false e =
          let l : first ≤ n = ltb-false n first e in
          times_after period n first p q l
          ∙ ap (λ (m : ℕ). m / period + 1) (omega arith)
          ∙ sym (div-eq-sub-div {m = period} p (omega arith))

-- ---- one that has at most its period left, by the whole periods and the rest of n
module _ (period n first : ℕ) (q : 1 ≤ first) (h : first ≤ period) where
  abbrev w : ℕ
  w = n / period

  abbrev r : ℕ
  r = n % period

  rest_below : r < period
  rest_below = mod-lt n (omega arith)

  -- what stands in `left_either` and `times_either`, by whole periods and a rest below one
  few : r < first → n + period - first ≡ w * period + (r + period - first)
  few l = omega (arith, div-add-mod' n period)

  more : first ≤ r → n + period - first ≡ suc w * period + (r - first)
  more l = omega (arith, div-add-mod' n period, suc-mul w period)

  pub left_few : r < first → left period n first ≡ first - r
  left_few l =
      left_either period n first (omega arith) q (omega arith)
      ∙ ap (λ (m : ℕ). period - m % period) (few l)
      ∙ ap (λ (m : ℕ). period - m) (digits_mod w (omega arith))
      ∙ (let k = rest_below in omega arith)

  pub times_few : r < first → ran_out period n first ≡ w
  times_few l = times_either period n first (omega arith) q (omega arith) ∙ ap (λ (m : ℕ). m / period) (few l) ∙ digits_div w (omega arith)

  pub left_more : first ≤ r → left period n first ≡ period - (r - first)
  left_more l =
      left_either period n first (omega arith) q (omega arith)
      ∙ ap (λ (m : ℕ). period - m % period) (more l)
      ∙ ap (λ (m : ℕ). period - m) (digits_mod (suc w) (omega (arith, rest_below)))

  pub times_more : first ≤ r → ran_out period n first ≡ w + 1
  times_more l =
      times_either period n first (omega arith) q (omega arith)
      ∙ ap (λ (m : ℕ). m / period) (more l)
      ∙ digits_div (suc w) (omega (arith, rest_below))
      ∙ omega arith
