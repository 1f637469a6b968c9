-- Document 01, "Timers": the rules of one timer, in the paper's words and order.
use Rattle.std.specs.Prelude.{ℕ, zero, suc, ◌+◌, ◌-◌, ◌%◌, Bool, false, cond, not, ◌&&◌, ◌||◌, [], ◌∷◌, leb, ltb, eqb, get_or}
use Rattle.timer.specs.declared.Timer.{Timer}

-- "Modes 0 to 7: stopped, then divisors 4, 10, 16, 50, 64, 100, 200."
unfoldable pub delay : ℕ → Bool
delay mode = leb 1 mode && leb mode 7

-- "Mode 8 (A, B only): event count."
abbrev pub event_count : ℕ → Bool
event_count mode = eqb mode 8

-- "Modes 9 to 15 (A, B only): pulse width with those seven divisors."
unfoldable pub pulse_width : ℕ → Bool
pulse_width mode = leb 9 mode && leb mode 15

unfoldable pub divisor : ℕ → ℕ
divisor mode = get_or (0 ∷ 4 ∷ 10 ∷ 16 ∷ 50 ∷ 64 ∷ 100 ∷ 200 ∷ []) (mode % 8) 0

-- "in a delay mode or in a pulse-width mode whose input is active"
unfoldable pub runs : Bool → Timer → Bool
runs active t = delay t.mode || pulse_width t.mode && active

-- ---- the timer with one part stored
abbrev pub with_mode : ℕ → Timer → Timer
with_mode m t = record { mode = m; reload = t.reload; counter = t.counter; position = t.position; output = t.output }

abbrev pub with_position : ℕ → Timer → Timer
with_position p t = record { mode = t.mode; reload = t.reload; counter = t.counter; position = p; output = t.output }

abbrev pub with_reload : ℕ → Timer → Timer
with_reload v t = record { mode = t.mode; reload = v; counter = t.counter; position = t.position; output = t.output }

abbrev pub with_counter : ℕ → Timer → Timer
with_counter n t = record { mode = t.mode; reload = t.reload; counter = n; position = t.position; output = t.output }

abbrev pub with_output : Bool → Timer → Timer
with_output o t = record { mode = t.mode; reload = t.reload; counter = t.counter; position = t.position; output = o }

-- ---- a count pulse
-- Count pulse: "a counter of 1 is reloaded from the data value, the output toggles, the timer's channel is raised: a timeout."
abbrev pub timeout : Timer → Bool
timeout t = eqb t.counter 1

unfoldable pub reloaded : Timer → Timer
reloaded t = with_output (not t.output) (with_counter t.reload t)

-- "Any other counter goes down by 1, and 0 goes to 255."
unfoldable pub counted_down : Timer → Timer
counted_down t = with_counter (cond (eqb t.counter 0) 255 (t.counter - 1)) t

unfoldable pub pulsed : Timer → Timer
pulsed t = cond (timeout t) (reloaded t) (counted_down t)

-- ---- clocks
-- One clock: "the position goes up by 1; at the divisor it becomes 0 and gives one count pulse." (A position past the divisor, which the image rule forbids, counts as at it.)
unfoldable pub at_divisor : Timer → Bool
at_divisor t = leb (divisor t.mode) (t.position + 1)

-- whether one clock gives a count pulse
abbrev pub gives_pulse : Bool → Timer → Bool
gives_pulse active t = runs active t && at_divisor t

-- "Otherwise a clock does nothing; in an inactive pulse-width mode the position is held."
unfoldable pub clocked : Bool → Timer → Timer
clocked active t = cond (gives_pulse active t) (pulsed (with_position 0 t)) (cond (runs active t) (with_position (t.position + 1) t) t)

-- the reloads, 0 or 1, that one clock makes
unfoldable pub reloads : Bool → Timer → ℕ
reloads active t = cond (gives_pulse active t && timeout t) 1 0

-- n clocks are n single clocks.
unfoldable pub clocks : Bool → ℕ → Timer → Timer
clocks active zero t = t
clocks active (suc n) t = clocks active n (clocked active t)

-- "The timeout counts equal the reloads made by that many single clocks"
unfoldable pub timeouts : Bool → ℕ → Timer → ℕ
timeouts active zero t = 0
timeouts active (suc n) t = reloads active t + timeouts active n (clocked active t)

-- ---- writes, reset and fresh
-- "A control write that changes the mode sets the position to 0; the same mode again keeps it. The counter stays." "bit 4 written 1 forces the timer's output low"
unfoldable pub controlled : ℕ → Bool → Timer → Timer
controlled mode low t = with_mode mode (with_position (cond (eqb mode t.mode) t.position 0) (with_output (not low && t.output) t))

-- Timer data: "A write stores the data value, and the counter too if the mode is 0."
unfoldable pub reload_written : ℕ → Timer → Timer
reload_written v t = with_counter (cond (eqb t.mode 0) v t.counter) (with_reload v t)

-- "Reset clears [..] modes, positions and outputs; data values, counters [..] stay."
abbrev pub reset_timer : Timer → Timer
reset_timer t = with_mode 0 (with_position 0 (with_output false t))

-- "A fresh device is all zero."
abbrev pub fresh_timer : Timer
fresh_timer = record { mode = 0; reload = 0; counter = 0; position = 0; output = false }

-- The image rule's part: "a position below its divisor, and 0 in modes 0 and 8"
unfoldable pub position_rule : Timer → Bool
position_rule t = cond (eqb (t.mode % 8) 0) (eqb t.position 0) (ltb t.position (divisor t.mode))
