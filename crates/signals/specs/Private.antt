-- For private functions alone: no rule of the paper stands here, and no public contract cites it.
use Rattle.std.specs.Prelude.{ℕ, Bool, cond}

-- the lines that no pulse-width mode of A or B mutes, as a set
abbrev pub heard : Bool → Bool → ℕ
heard a b = cond a (cond b 231 239) (cond b 247 255)
