-- One count pulse, part by part. Assumes nothing.
use mathlib.Core.Path.{◌≡◌, refl}
use mathlib.Core.Bool.{Bool, true, false, cond, not}
use Rattle.timer.specs.declared.Timer.{Timer}
use Rattle.timer.specs.Timers.{timeout, reloaded, counted_down, pulsed}

module _ (t : Timer) where
  pub by_timeout : (P : Timer → Type 0) → (timeout t ≡ true → P (reloaded t)) → (timeout t ≡ false → P (counted_down t)) → P (pulsed t)
  unfolding pulsed
  by_timeout P f g = go (timeout t) refl
    where
      go : (b : Bool) → timeout t ≡ b → P (cond b (reloaded t) (counted_down t))
      go true e = f e
      go false e = g e

  pub pulsed_mode : (pulsed t).mode ≡ t.mode
  unfolding reloaded counted_down
  pulsed_mode = by_timeout (λ u. u.mode ≡ t.mode) (λ e. refl) (λ e. refl)

  pub pulsed_reload : (pulsed t).reload ≡ t.reload
  unfolding reloaded counted_down
  pulsed_reload = by_timeout (λ u. u.reload ≡ t.reload) (λ e. refl) (λ e. refl)

  pub pulsed_position : (pulsed t).position ≡ t.position
  unfolding reloaded counted_down
  pulsed_position = by_timeout (λ u. u.position ≡ t.position) (λ e. refl) (λ e. refl)

  pub pulsed_output : (pulsed t).output ≡ cond (timeout t) (not t.output) t.output
  unfolding reloaded counted_down
  pulsed_output = by_timeout (λ u. u.output ≡ cond (timeout t) (not t.output) t.output) (λ e. rw e refl) (λ e. rw e refl)
