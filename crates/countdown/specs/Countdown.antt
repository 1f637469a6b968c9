-- A countdown, one unit at a time: what a timer's position (units: clocks) and its counter (units: count pulses) have in common. Only private functions promise it; the rules are crate timer's.
use Rattle.std.specs.Prelude.{ℕ, zero, suc, ◌+◌, ◌-◌, ◌%◌, Bool, cond, not, eqb, ltb}
use Rattle.timer.specs.declared.Timer.{Timer}
use Rattle.timer.specs.Timers.{divisor}

-- One unit: at 1 the countdown has run out and starts anew from its period; else it goes down by 1.
unfoldable pub unit : ℕ → ℕ → ℕ
unit period n = cond (eqb n 1) period (n - 1)

-- What is left of a countdown after so many units.
unfoldable pub left : ℕ → ℕ → ℕ → ℕ
left period zero first = first
left period (suc n) first = left period n (unit period first)

-- How often it ran out in so many units.
unfoldable pub ran_out : ℕ → ℕ → ℕ → ℕ
ran_out period zero first = 0
ran_out period (suc n) first = cond (eqb first 1) 1 0 + ran_out period n (unit period first)

-- ---- how a timer's parts are countdowns
-- the count pulses up to the next timeout: a counter of 0 goes to 255 first, so that it counts as 256, and so does a data value of 0
unfoldable pub span : ℕ → ℕ
span v = cond (eqb v 0) 256 v

-- the clocks up to the next count pulse
unfoldable pub to_go : ℕ → ℕ → ℕ
to_go d p = cond (ltb p d) (d - p) 1

-- an output after so many timeouts, each of which toggles it
unfoldable pub toggled : ℕ → Bool → Bool
toggled k o = cond (eqb (k % 2) 0) o (not o)

-- n clocks that move a timer: the count pulses that they give, and the position that they leave
unfoldable pub pulses_in : ℕ → Timer → ℕ
pulses_in n t = ran_out (divisor t.mode) n (to_go (divisor t.mode) t.position)

unfoldable pub position_after : ℕ → Timer → ℕ
position_after n t = divisor t.mode - left (divisor t.mode) n (to_go (divisor t.mode) t.position)

-- k count pulses: the timeouts that they make, and the counter that they leave
unfoldable pub timeouts_in : ℕ → Timer → ℕ
timeouts_in k t = ran_out (span t.reload) k (span t.counter)

unfoldable pub counter_after : ℕ → Timer → ℕ
counter_after k t = left (span t.reload) k (span t.counter) % 256
