-- A level event changes no timer input: nothing counts, no pulse ends, and only lines raise. Assumes nothing.
use mathlib.Core.Path.{◌≡◌, refl, sym, ap, ap₂, ◌∙◌}
use mathlib.Core.Bool.{Bool, true, false, ◌&&◌}
use mathlib.Core.List.{List, [], ◌∷◌}
use lib.Bits.{bit_or, or_zero_r}
use Rattle.channels.specs.declared.Line.{Line}
use Rattle.channels.specs.Channels.{channel_of, line}
use Rattle.channels.specs.Raises.{Raises, raises_if, raised_by}
use Rattle.channels.proofs.Raises.{raised_by_parts}
use Rattle.lines.specs.declared.Lines.{Lines}
use Rattle.lines.specs.declared.TimerInput.{TimerInput}
use Rattle.lines.specs.declared.TimerInput.TheVariants.{Tai, Tbi}
use Rattle.lines.specs.Registers.{with_level}
use Rattle.signals.specs.Signals.{input_active, becomes, ceases, input_becomes, input_ceases, shared_line, line_raises, lines_below, pulse_ends, signal_raises}
use Rattle.timer.specs.Timers.{event_count}
use Rattle.timeouts.specs.Clocks.{none, timeout_raises, pulse_timers, pulse_timeouts}
use Rattle.timeouts.specs.declared.Timeouts.{Timeouts}
use Rattle.events.specs.declared.Answer.TheVariants.{Done}
use Rattle.device.specs.declared.Device.{Device}
use Rattle.device.specs.Signals.{timer_of, measuring, counts, signal_timers, signal_timeouts, change_raises, signalled, done, signal_step}

-- what stays neither becomes active nor ceases to be
none_becomes : (x b : Bool) → x && becomes b b ≡ false
none_becomes true true = refl
none_becomes true false = refl
none_becomes false b = refl

none_ceases : (x b : Bool) → x && ceases b b ≡ false
none_ceases true true = refl
none_ceases true false = refl
none_ceases false b = refl

module _ (i : Line) (high : Bool) (d : Device) where
  abbrev after : Lines
  after = with_level i high d.lines

  stays : (k : TimerInput) → input_active k after ≡ input_active k d.lines
  unfolding with_level input_active
  stays Tai = refl
  stays Tbi = refl

  uncounted : (k : TimerInput) → counts k d.timers d.lines after ≡ false
  unfolding counts input_becomes
  uncounted k = rw (stays k) (none_becomes (event_count (timer_of k d.timers).mode) (input_active k d.lines))

  unended : (k : TimerInput) → pulse_ends (measuring d.timers) d.lines after k ≡ false
  unfolding pulse_ends input_ceases
  unended k = rw (stays k) (none_ceases (measuring d.timers k) (input_active k d.lines))

  pub level_timers : signal_timers after d ≡ d.timers
  unfolding signal_timers
  level_timers = ap₂ (λ (a b : Bool). pulse_timers a b d.timers) (uncounted Tai) (uncounted Tbi)

  level_timeouts : signal_timeouts after d ≡ none
  unfolding signal_timeouts
  level_timeouts = ap₂ (λ (a b : Bool). pulse_timeouts a b d.timers) (uncounted Tai) (uncounted Tbi)

  -- neither the inputs nor the timers raise
  ended : raised_by (raises_if (pulse_ends (measuring d.timers) d.lines after Tai) (channel_of (line (shared_line Tai))) ∷ raises_if (pulse_ends (measuring d.timers) d.lines after Tbi) (channel_of (line (shared_line Tbi))) ∷ []) ≡ 0
  unfolding raised_by
  ended = ap₂ (λ (a b : Bool). raised_by (raises_if a (channel_of (line (shared_line Tai))) ∷ raises_if b (channel_of (line (shared_line Tbi))) ∷ [])) (unended Tai) (unended Tbi)

  counted : raised_by (timeout_raises (signal_timeouts after d)) ≡ 0
  unfolding raised_by
  counted = ap (λ (n : Timeouts). raised_by (timeout_raises n)) level_timeouts

  abbrev by_lines : List Raises
  by_lines = lines_below 8 (line_raises (measuring d.timers) d.lines after)

  pub level_raises : raised_by (change_raises after d) ≡ raised_by by_lines
  unfolding change_raises signal_raises
  level_raises =
      raised_by_parts (signal_raises (measuring d.timers) d.lines after) (timeout_raises (signal_timeouts after d))
      ∙ ap₂ bit_or (raised_by_parts by_lines _ ∙ ap (bit_or (raised_by by_lines)) ended ∙ or_zero_r (raised_by by_lines)) counted
      ∙ or_zero_r (raised_by by_lines)

  -- such an event is done with the device that it leaves
  pub level_done : {x : Device} → x ≡ signalled after d → done x ≡ signal_step after d
  level_done p = λ k. record { device = p k; answer = Done; timeouts = sym level_timeouts k }
