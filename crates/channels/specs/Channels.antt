-- Document 01, "Channels": lines and channels, sets of them, and a set's two registers.
use Rattle.std.specs.Prelude.{ℕ, ◌+◌, ◌*◌, ◌/◌, ◌%◌, ◌^◌, Bool, cond, [], ◌∷◌, ltb, eqb, get_or}
use Rattle.channels.specs.declared.Line.{Line}
use Rattle.channels.specs.declared.Channel.{Channel}
use Rattle.channels.specs.declared.Half.{Half}
use Rattle.channels.specs.declared.Half.TheVariants.{A, B}

-- "A line number and a channel number are kept apart: line 5 is channel 7. Channels 15 down to 0: I7, I6, timer A, receiver buffer full, receive error, transmit buffer empty, transmit error, timer B, I5, I4, timer C, timer D, I3, I2, I1, I0."
unfoldable pub channel_of : Line → Channel
channel_of line = record { 0 = get_or (0 ∷ 1 ∷ 2 ∷ 3 ∷ 6 ∷ 7 ∷ 14 ∷ 15 ∷ []) line.0 16 }

abbrev pub line : ℕ → Line
line n = record { 0 = n }

abbrev pub channel : ℕ → Channel
channel n = record { 0 = n }

abbrev pub timer_a : Channel
timer_a = channel 13

abbrev pub timer_b : Channel
timer_b = channel 8

abbrev pub timer_c : Channel
timer_c = channel 5

abbrev pub timer_d : Channel
timer_d = channel 4

-- A set is a number: what has the number c is in it if bit c is 1.
unfoldable pub has : ℕ → ℕ → Bool
has s c = eqb (s / 2 ^ c % 2) 1

-- the set of one channel; a number that is no channel's is in no set
unfoldable pub set_of : Channel → ℕ
set_of c = cond (ltb c.0 16) (2 ^ c.0) 0

-- "Register A holds channels 15 to 8 in bits 7 to 0, register B channels 7 to 0."
unfoldable pub half : Half → ℕ → ℕ
half A s = s / 256
half B s = s % 256

-- a set with one of its registers stored
unfoldable pub with_half : Half → ℕ → ℕ → ℕ
with_half A s v = v * 256 + s % 256
with_half B s v = s / 256 * 256 + v
