-- What stands behind two short forms of the interrupt rules: "no channel equal to or above it is in service" as a number, and an acknowledge where S is 0. Proved in proofs/Channels.antt.
use Rattle.std.specs.Prelude.{ℕ, ◌^◌, ◌≤◌, ◌≡◌, Bool, true, false, ltb}
use Rattle.interrupts.specs.declared.Interrupts.{Interrupts}
use Rattle.channels.specs.Channels.{has}
use Rattle.interrupts.specs.Interrupts.{S}
use Rattle.requests.specs.Requests.{acknowledged}

-- a set below 2 ^ c has no channel equal to or above c, and the other way round
abbrev pub BelowHasNone : Type 0
BelowHasNone = (s c : ℕ) → ltb s (2 ^ c) ≡ true → (k : ℕ) → c ≤ k → has s k ≡ false

abbrev pub NoneIsBelow : Type 0
NoneIsBelow = (s c : ℕ) → ((k : ℕ) → c ≤ k → has s k ≡ false) → ltb s (2 ^ c) ≡ true

-- "its in-service bit is set if S is 1": where S is 0 an acknowledge sets none
abbrev pub Unserved : Type 0
Unserved = (iei : Bool) (i : Interrupts) → S i.vector ≡ false → (acknowledged iei i).interrupts.service ≡ i.service
