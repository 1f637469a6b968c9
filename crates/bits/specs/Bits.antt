-- A truth value as a bit of a byte.
use Rattle.std.specs.Prelude.{ℕ, Bool, cond}

-- what a bit of this weight counts in a byte
abbrev pub bit_value : Bool → ℕ → ℕ
bit_value b weight = cond b weight 0
