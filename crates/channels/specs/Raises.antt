-- The raises of an event: which channels, and how often each.
use Rattle.std.specs.Prelude.{ℕ, Bool, cond, List, [], ◌∷◌, ltb}
use Rattle.std.specs.Int.Bits.{bit_or}
use Rattle.channels.specs.Channels.{set_of}
use Rattle.channels.specs.declared.Channel.{Channel}

-- so many raises of a channel
pub record Raises : Type 0 where
  pub channel : Channel
  pub times : ℕ

abbrev pub raises : ℕ → Channel → Raises
raises n c = record { channel = c; times = n }

-- one raise if the condition holds
abbrev pub raises_if : Bool → Channel → Raises
raises_if b c = raises (cond b 1 0) c

-- the set of a channel, or none
abbrev pub only_if : Bool → Channel → ℕ
only_if b c = cond b (set_of c) 0

-- the set of the channels that are raised at all
unfoldable pub raised_by : List Raises → ℕ
raised_by [] = 0
raised_by (r ∷ rs) = bit_or (only_if (ltb 0 r.times) r.channel) (raised_by rs)
