-- Document 01, "Lines and timer inputs": signals and what their changes raise, in the paper's words.
use Rattle.std.specs.Prelude.{ℕ, zero, suc, Bool, not, ◌&&◌, ◌||◌, List, [], ◌∷◌, ◌++◌, eqb}
use Rattle.std.specs.Bool.{beq}
use Rattle.channels.specs.Channels.{has, channel_of, line}
use Rattle.channels.specs.Raises.{Raises, raises_if}
use Rattle.lines.specs.declared.Lines.{Lines}
use Rattle.lines.specs.declared.TimerInput.{TimerInput}
use Rattle.lines.specs.declared.TimerInput.TheVariants.{Tai, Tbi}

-- ---- signals
-- "A signal is active if its level equals its edge bit: AER bit i for line i, bit 4 for TAI, bit 3 for TBI."
abbrev pub active : Bool → Bool → Bool
active level edge = beq level edge

unfoldable pub line_active : Lines → ℕ → Bool
line_active l i = active (has l.levels i) (has l.aer i)

abbrev pub level_of : TimerInput → Lines → Bool
level_of Tai l = l.tai
level_of Tbi l = l.tbi

-- the line whose edge bit an input shares, and whose channel it takes in the pulse-width modes of its timer
abbrev pub shared_line : TimerInput → ℕ
shared_line Tai = 4
shared_line Tbi = 3

unfoldable pub input_active : TimerInput → Lines → Bool
input_active i l = active (level_of i l) (has l.aer (shared_line i))

abbrev pub becomes : Bool → Bool → Bool
becomes before after = not before && after

abbrev pub ceases : Bool → Bool → Bool
ceases before after = before && not after

-- "each time TAI or TBI becomes active, by level or AER write"
unfoldable pub input_becomes : TimerInput → Lines → Lines → Bool
input_becomes i before after = becomes (input_active i before) (input_active i after)

unfoldable pub input_ceases : TimerInput → Lines → Lines → Bool
input_ceases i before after = ceases (input_active i before) (input_active i after)

-- ---- what a change of signals raises, by a level event or by an AER write. `pulses i` says that the timer of input i is in a pulse-width mode.
-- "In timer A's pulse-width modes [..] line 4 raises nothing; for B likewise [..] line 3."
unfoldable pub muted : (TimerInput → Bool) → ℕ → Bool
muted pulses i = eqb i (shared_line Tai) && pulses Tai || eqb i (shared_line Tbi) && pulses Tbi

-- "An input line (DDR 0) raises its channel when it becomes active; an output line never raises. This holds for a level event and for an AER write."
unfoldable pub line_raises : (TimerInput → Bool) → Lines → Lines → ℕ → Bool
line_raises pulses before after i = becomes (line_active before i) (line_active after i) && not (has before.ddr i) && not (muted pulses i)

-- the lines below n of which p holds raise their channels
unfoldable pub lines_below : ℕ → (ℕ → Bool) → List Raises
lines_below zero p = []
lines_below (suc i) p = raises_if (p i) (channel_of (line i)) ∷ lines_below i p

-- "In timer A's pulse-width modes channel 6 is raised by TAI ceasing to be active, by level or AER write [..]; for B likewise channel 3, TBI"
unfoldable pub pulse_ends : (TimerInput → Bool) → Lines → Lines → TimerInput → Bool
pulse_ends pulses before after i = pulses i && input_ceases i before after

-- all eight lines and both inputs; line 4's channel is 6, line 3's is 3
unfoldable pub signal_raises : (TimerInput → Bool) → Lines → Lines → List Raises
signal_raises pulses before after =
    lines_below 8 (line_raises pulses before after)
    ++ (raises_if (pulse_ends pulses before after Tai) (channel_of (line (shared_line Tai)))
    ∷ raises_if (pulse_ends pulses before after Tbi) (channel_of (line (shared_line Tbi)))
    ∷ [])

-- two truth values, by input
abbrev pub of_inputs : Bool → Bool → TimerInput → Bool
of_inputs a b Tai = a
of_inputs a b Tbi = b
