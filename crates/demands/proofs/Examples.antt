-- The bench examples, from the timers' laws or by computing. Assumes nothing.
use Prim.Native.Nat.{ℕ, ◌+◌, ◌-◌, ◌/◌, ◌%◌, ◌≤◌, ◌<◌}
use mathlib.Core.Path.{◌≡◌, refl, ap, ◌∙◌}
use mathlib.Core.Bool.{Bool, true, false, ◌&&◌, beq, and-false}
use native.Mathlib.Nat.{mod-lt, lt_of_le_of_lt}
use native.Mathlib.Omega.{arith}
use lib.Dec.{lit≤, lit<}
use lib.Bits.{bit_and, and_le_l}
use borrow.Author.Tests.{eqb-false, lt-ltb, leb-true, ne_eqb}
use Rattle.timer.specs.declared.Timer.{Timer}
use Rattle.timer.specs.Timers.{delay, pulse_width, runs, clocks, timeouts, reload_written}
use Rattle.countdown.specs.Countdown.{unit, left, ran_out, span, to_go, toggled, pulses_in, position_after, timeouts_in, counter_after}
use Rattle.countdown.proofs.Countdowns.{left_either, times_either}
use Rattle.countdown.proofs.Pulses.{span_pos}
use Rattle.countdown.proofs.AtOnce.{at_once, clocks_at_once, timeouts_at_once}
use Rattle.channels.specs.declared.Half.{Half}
use Rattle.channels.specs.declared.Half.TheVariants.{A, B}
use Rattle.channels.specs.Channels.{has, set_of, channel_of, half, with_half}
use Rattle.channels.specs.Raises.{raised_by}
use Rattle.interrupts.specs.Interrupts.{kept, interrupt_read, interrupt_written, raised}
use Rattle.requests.specs.Requests.{requests, some_requests, irq, highest_below, highest, vector_of, acknowledged}
use Rattle.channels.proofs.Sets.{has_and}
use Rattle.channels.proofs.Tables.{everywhere, same}
use Rattle.timers.specs.Registers.{timer_read, timer_written}
use Rattle.device.specs.declared.Device.{Device}
use Rattle.events.specs.declared.Answer.TheVariants.{Data}
use Rattle.signals.specs.Signals.{line_active, input_active, input_becomes, input_ceases, muted, line_raises, lines_below, pulse_ends, signal_raises}
use Rattle.device.specs.Signals.{counts, signal_timeouts, signal_timers, change_raises, signalled}
use Rattle.lines.specs.Registers.{line_written, with_input}
use Rattle.step.specs.Clocks.{clocks_device, timeouts_device}
use Rattle.device.specs.Whole.{read_of}
use Rattle.step.specs.Events.{write_step}
use Rattle.device.specs.Whole.{fresh_device, irq_of}
use Rattle.step.specs.Events.{effect_of}
use Rattle.step.proofs.Clocks.{clocks_each}
use Rattle.demands.specs.Examples.{P1, P2, Delays, P3, P4, P5, P6, P7, masked, unmasked, P8, P9, P10, P11, P12, B1, B2}
use Rattle.bits.proofs.Bits.{halves}

-- ---- acknowledge
pub P1_holds : P1
unfolding effect_of fresh_device acknowledged highest highest_below requests has
P1_holds = refl

pub P2_holds : P2
unfolding effect_of acknowledged
P2_holds d h = (refl, refl)

-- ---- a timer in a delay mode from position 0
delay_runs : (active : Bool) (t : Timer) → delay t.mode ≡ true → runs active t ≡ true
unfolding runs
delay_runs active t e = rw e refl

-- a countdown from its period runs out once a period
once_a_period : (period n : ℕ) → 1 ≤ period → ran_out period n period ≡ n / period
once_a_period period n p = times_either period n period p p (omega arith) ∙ ap (λ (m : ℕ). m / period) (let e : n + period - period ≡ n = omega arith in e)

module _ (by value : ℕ) (t : Timer) (p : 1 ≤ by) (s : Delays by value t) (n : ℕ) where
  whole_to_go : to_go by 0 ≡ by
  unfolding to_go
  whole_to_go = rw (lt-ltb 0 by p) (omega arith)

  pulses_made : pulses_in n t ≡ n / by
  unfolding pulses_in
  pulses_made = rw (s.divides, s.position, whole_to_go) (once_a_period by n p)

  timeouts_made : timeouts_in (pulses_in n t) t ≡ n / by / span value
  unfolding timeouts_in
  timeouts_made = rw (pulses_made, s.reload, s.counter) (once_a_period (span value) (n / by) (span_pos value))

  position_left : position_after n t ≡ n % by
  unfolding position_after
  position_left = rw (s.divides, s.position, whole_to_go, left_either by n by p p (omega arith), (let e : n + by - by ≡ n = omega arith in e)) (let l : n % by < by = mod-lt n p in omega arith)

  timeouts_counted : (active : Bool) → timeouts active n t ≡ n / by / span value
  timeouts_counted active = timeouts_at_once active n t (delay_runs active t s.mode) ∙ timeouts_made

  clocked_at_once : (active : Bool) → value < 256 → (n ≡ 0 → ⊥) → clocks active n t ≡ at_once n t
  clocked_at_once active h f = clocks_at_once active n t (delay_runs active t s.mode) (rw s.reload h) (rw s.counter h) f

pub P3_holds : P3
unfolding span
P3_holds active t s = (timeouts_counted 4 1 t (lit≤ tt) s 3 active, timeouts_counted 4 1 t (lit≤ tt) s 4 active)

pub P4_holds : P4
unfolding span
P4_holds active t s = (timeouts_counted 200 0 t (lit≤ tt) s 51199 active, timeouts_counted 200 0 t (lit≤ tt) s 51200 active)

pub P5_holds : P5
unfolding effect_of clocks_device timeouts_device
P5_holds d = (refl, refl)

pub P6_holds : P6
unfolding span toggled
P6_holds active t s low =
    let e = clocked_at_once 4 1 t (lit≤ tt) s 4294967295 active (lit< tt) (eqb-false _ _ refl) in (
      timeouts_counted 4 1 t (lit≤ tt) s 4294967295 active,
      ap (λ (u : Timer). u.position) e ∙ position_left 4 1 t (lit≤ tt) s 4294967295,
      ap (λ (u : Timer). u.output) e ∙ rw (timeouts_made 4 1 t (lit≤ tt) s 4294967295, low) refl,
    )

-- ---- the interrupt controller
-- a register of a set, of which a byte is kept
kept_half : (h : Half) (s v : ℕ) → half h (kept h s v) ≡ bit_and (half h s) v
unfolding kept half with_half
kept_half A s v = let l : s % 256 < 256 = mod-lt s (lit< tt) in omega arith
kept_half B s v = let l : bit_and (s % 256) v < 256 = lt_of_le_of_lt (and_le_l (s % 256) v) (mod-lt s (lit< tt)) in omega arith

pub P7_holds : P7
unfolding effect_of write_step read_of interrupt_read interrupt_written
P7_holds d h v k e = (
  ap (λ (n : ℕ). has n k) (kept_half h d.interrupts.pending v)
      ∙ has_and (half h d.interrupts.pending) v k
      ∙ ap (λ (b : Bool). has (half h d.interrupts.pending) k && b) e
      ∙ and-false (has (half h d.interrupts.pending) k),
  refl,
)

pub P8_holds : P8
unfolding effect_of write_step interrupt_written with_half irq some_requests requests has
P8_holds d c h = (same _ _ (everywhere 16 (λ (c : ℕ). beq (irq_of (masked c d)) false) tt c h), same _ _ (everywhere 16 (λ (c : ℕ). beq (irq_of (unmasked c d)) true) tt c h))

pub P9_holds : P9
unfolding effect_of write_step read_of interrupt_read interrupt_written
P9_holds d e = (kept_half A d.interrupts.pending 0xDF ∙ ap (λ (n : ℕ). bit_and n 0xDF) e, kept_half A d.interrupts.pending 0xFF ∙ ap (λ (n : ℕ). bit_and n 0xFF) e)

pub P10_holds : P10
unfolding effect_of acknowledged highest highest_below vector_of requests has
P10_holds d p m n s = rw (p, m, n, s) (refl, refl, refl)

-- ---- lines and inputs
pub P11_holds : P11
unfolding effect_of write_step read_of line_written interrupt_read half signalled change_raises signal_raises signal_timers signal_timeouts counts input_becomes input_ceases pulse_ends line_raises muted lines_below raised_by line_active input_active raised has set_of channel_of pulse_width
P11_holds d = (refl, refl)

pub P12_holds : P12
unfolding effect_of read_of interrupt_read half with_input signalled change_raises signal_raises signal_timers signal_timeouts counts input_becomes input_ceases pulse_ends line_raises muted lines_below raised_by line_active input_active raised has set_of channel_of pulse_width
P12_holds d = (refl, refl)

-- ---- timer data
delay_not_0 : (mode : ℕ) → delay mode ≡ true → mode ≡ 0 → ⊥
unfolding delay
delay_not_0 mode e z = let l : 1 ≤ mode = leb-true _ _ (halves _ _ e).0 in omega arith

pub B1_holds : B1
unfolding effect_of write_step timer_written reload_written
B1_holds d e k = rw (ne_eqb _ _ (delay_not_0 d.timers.c.mode e)) k

pub B2_holds : B2
unfolding effect_of read_of timer_read counter_after left unit span
B2_holds d s =
    ap (λ (x : Device). Data x.timers.c.counter) (clocks_each 4 d)
    ∙ ap (λ (u : Timer). Data u.counter) (clocked_at_once 4 3 d.timers.c (lit≤ tt) s 4 false (lit< tt) (eqb-false _ _ refl))
    ∙ rw (pulses_made 4 3 d.timers.c (lit≤ tt) s 4, s.reload, s.counter) refl
