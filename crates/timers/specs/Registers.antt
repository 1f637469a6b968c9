-- Document 01, "Registers": the timers' registers; reset and fresh; their outputs and their part of the image rule.
use Rattle.std.specs.Prelude.{ℕ, ◌+◌, ◌*◌, ◌/◌, ◌%◌, Bool, false, ◌&&◌, leb}
use Rattle.bits.specs.Bits.{bit_value}
use Rattle.timer.specs.declared.Timer.{Timer}
use Rattle.timer.specs.Timers.{controlled, reload_written, reset_timer, fresh_timer, position_rule}
use Rattle.channels.specs.Channels.{has}
use Rattle.timers.specs.declared.Timers.{Timers}
use Rattle.timers.specs.declared.TimerRegister.{TimerRegister}
use Rattle.timers.specs.declared.TimerRegister.TheVariants.{Tacr, Tbcr, Tcdcr, Tadr, Tbdr, Tcdr, Tddr}

-- ---- the timers with one stored
abbrev pub with_a : Timer → Timers → Timers
with_a x t = record { a = x; b = t.b; c = t.c; d = t.d }

abbrev pub with_b : Timer → Timers → Timers
with_b x t = record { a = t.a; b = x; c = t.c; d = t.d }

abbrev pub with_c : Timer → Timers → Timers
with_c x t = record { a = t.a; b = t.b; c = x; d = t.d }

abbrev pub with_d : Timer → Timers → Timers
with_d x t = record { a = t.a; b = t.b; c = t.c; d = x }

-- ---- control bytes
-- "TACR, TBCR: bits 3 to 0 are the mode; bit 4 written 1 forces the timer's output low; bits 7 to 4 read 0."
abbrev pub mode_ab : ℕ → ℕ
mode_ab v = v % 16

-- "TCDCR: bits 6 to 4 are C's mode, 2 to 0 D's; bits 7 and 3 read 0."
abbrev pub mode_c : ℕ → ℕ
mode_c v = v / 16 % 8

abbrev pub mode_d : ℕ → ℕ
mode_d v = v % 8

-- the byte of two modes
unfoldable pub tcdcr_of : Timers → ℕ
tcdcr_of t = t.c.mode % 8 * 16 + t.d.mode % 8

-- ---- registers: "12 TACR, 13 TBCR, 14 TCDCR, 15 to 18 TADR to TDDR"
unfoldable pub timer_read : TimerRegister → Timers → ℕ
timer_read Tacr t = mode_ab t.a.mode
timer_read Tbcr t = mode_ab t.b.mode
timer_read Tcdcr t = tcdcr_of t
-- Timer data: "a read gives the main counter at the moment of the read."
timer_read Tadr t = t.a.counter
timer_read Tbdr t = t.b.counter
timer_read Tcdr t = t.c.counter
timer_read Tddr t = t.d.counter

unfoldable pub timer_written : TimerRegister → ℕ → Timers → Timers
timer_written Tacr v t = with_a (controlled (mode_ab v) (has v 4) t.a) t
timer_written Tbcr v t = with_b (controlled (mode_ab v) (has v 4) t.b) t
timer_written Tcdcr v t = with_c (controlled (mode_c v) false t.c) (with_d (controlled (mode_d v) false t.d) t)
-- Timer data: "A write stores the data value, and the counter too if the mode is 0."
timer_written Tadr v t = with_a (reload_written v t.a) t
timer_written Tbdr v t = with_b (reload_written v t.b) t
timer_written Tcdr v t = with_c (reload_written v t.c) t
timer_written Tddr v t = with_d (reload_written v t.d) t

-- ---- reset and fresh
abbrev pub reset_timers : Timers → Timers
reset_timers t = record { a = reset_timer t.a; b = reset_timer t.b; c = reset_timer t.c; d = reset_timer t.d }

abbrev pub fresh_timers : Timers
fresh_timers = record { a = fresh_timer; b = fresh_timer; c = fresh_timer; d = fresh_timer }

-- ---- outputs
-- "outputs (bit 0 A to bit 3 D)"
unfoldable pub outputs_of : Timers → ℕ
outputs_of t = bit_value t.a.output 1 + bit_value t.b.output 2 + bit_value t.c.output 4 + bit_value t.d.output 8

-- ---- the image rule's part
-- a timer whose modes end at `most`
unfoldable pub timer_rule : ℕ → Timer → Bool
timer_rule most t = leb t.mode most && position_rule t

-- "modes A and B at most 15; [..] a position below its divisor, and 0 in modes 0 and 8." (A mode of C or D above 7 has no bits in TCDCR.)
unfoldable pub timers_rule : Timers → Bool
timers_rule t = (timer_rule 15 t.a && timer_rule 15 t.b) && (timer_rule 7 t.c && timer_rule 7 t.d)
