-- What the run takes of a record that the check has let pass, without looking at it whole again: its kind, its a and the lowest byte of n decide. `tape::event_of` promises it; of such a record it is the very event that the record means (proofs/Taken.antt: taken_is_meant).
use Rattle.std.specs.Prelude.{List, [], ◌∷◌, eqb, get_or}
use Rattle.channels.specs.Channels.{line, channel}
use Rattle.events.specs.declared.Event.{Event}
use Rattle.events.specs.declared.Event.TheVariants.{Reset, Read, Write, Level, Input, Clocks, Acknowledge, Raise}
use Rattle.selects.specs.Selects.{read_select, write_select, known_of}
use Rattle.record.specs.Records.{Raw, input_of, operand}

-- by kinds 0 to 6, and any other as 7
abbrev pub taken_as : Raw → List Event
taken_as r =
    Reset
    ∷ Read (known_of (read_select r.a))
    ∷ Write (known_of (write_select r.a)) r.n0
    ∷ Level (line r.a) (eqb r.n0 1)
    ∷ Input (input_of r.a) (eqb r.n0 1)
    ∷ Clocks (operand r)
    ∷ Acknowledge (eqb r.a 1)
    ∷ []

unfoldable pub taken : Raw → Event
taken r = get_or (taken_as r) r.kind (Raise (channel r.a))
