-- Document 01, "Timers" and "Lines and timer inputs": clocks and count pulses of the four timers, and the timeouts they make.
use Rattle.std.specs.Prelude.{ℕ, ◌+◌, Bool, false, cond, ◌&&◌, List, [], ◌∷◌}
use Rattle.timer.specs.Timers.{timeout, pulsed, clocked, reloads, clocks, timeouts}
use Rattle.channels.specs.Channels.{timer_a, timer_b, timer_c, timer_d}
use Rattle.channels.specs.Raises.{Raises, raises}
use Rattle.timers.specs.declared.Timers.{Timers}
use Rattle.timeouts.specs.declared.Timeouts.{Timeouts}
use Rattle.timeouts.specs.declared.Advanced.{Advanced}

-- ---- timeouts
abbrev pub none : Timeouts
none = record { a = 0; b = 0; c = 0; d = 0 }

abbrev pub add_timeouts : Timeouts → Timeouts → Timeouts
add_timeouts m n = record { a = m.a + n.a; b = m.b + n.b; c = m.c + n.c; d = m.d + n.d }

-- "the timer's channel is raised: a timeout.": which channels, and how often
abbrev pub timeout_raises : Timeouts → List Raises
timeout_raises n = raises n.a timer_a ∷ raises n.b timer_b ∷ raises n.c timer_c ∷ raises n.d timer_d ∷ []

-- ---- one clock. `tai` and `tbi` say whether TAI, A's input, and TBI, B's input, are active; C and D have no input.
abbrev pub each_clocked : Bool → Bool → Timers → Timers
each_clocked tai tbi t = record { a = clocked tai t.a; b = clocked tbi t.b; c = clocked false t.c; d = clocked false t.d }

-- the reloads of one clock
abbrev pub each_reloads : Bool → Bool → Timers → Timeouts
each_reloads tai tbi t = record { a = reloads tai t.a; b = reloads tbi t.b; c = reloads false t.c; d = reloads false t.d }

-- ---- n clocks of each timer: "The timeout counts equal the reloads made by that many single clocks"
abbrev pub timers_after : Bool → Bool → ℕ → Timers → Timers
timers_after tai tbi n t = record { a = clocks tai n t.a; b = clocks tbi n t.b; c = clocks false n t.c; d = clocks false n t.d }

abbrev pub timeouts_after : Bool → Bool → ℕ → Timers → Timeouts
timeouts_after tai tbi n t = record { a = timeouts tai n t.a; b = timeouts tbi n t.b; c = timeouts false n t.c; d = timeouts false n t.d }

abbrev pub clocked_by : Bool → Bool → ℕ → Timers → Advanced
clocked_by tai tbi n t = record { timers = timers_after tai tbi n t; timeouts = timeouts_after tai tbi n t }

-- ---- one count pulse of A, of B, of both or of none: "each time TAI or TBI becomes active [..] gives one count pulse."
abbrev pub pulse_timers : Bool → Bool → Timers → Timers
pulse_timers a b t = record { a = cond a (pulsed t.a) t.a; b = cond b (pulsed t.b) t.b; c = t.c; d = t.d }

-- "for an event without clocks, the reloads it made (0 or 1)"
abbrev pub pulse_timeouts : Bool → Bool → Timers → Timeouts
pulse_timeouts a b t = record { a = cond (a && timeout t.a) 1 0; b = cond (b && timeout t.b) 1 0; c = 0; d = 0 }

abbrev pub pulsed_by : Bool → Bool → Timers → Advanced
pulsed_by a b t = record { timers = pulse_timers a b t; timeouts = pulse_timeouts a b t }
