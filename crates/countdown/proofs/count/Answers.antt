-- `countdown::count` meets its contract: each way out is the countdown's closed form. Assumes nothing.
use Rattle.std.proofs.Common.{◌≡◌, sym, ◌<◌, ◌≤◌, ◌+◌, ◌-◌, arith}
use Rattle.countdown.proofs.Countdowns.{left_before, none_before, left_either, times_either}
use Rattle.countdown.proofs.count.Goals as goal

pub returns-then-ahead-f : goal.returns-then-ahead-f
returns-then-ahead-f c =
    let a = c.args in
    let h : a.n < a.first = omega arith in
    (sym (none_before a.period a.n a.first h), sym (left_before a.period a.n a.first h))

pub returns : goal.returns
returns c =
    let a = c.args in
    let p = c.requires in
    let h : a.first ≤ a.n + a.period = omega arith in
    rw (c.from-p.ensures, c.from.ensures, c.from-f.ensures) (sym (times_either a.period a.n a.first p.some_period p.some_left h), sym (left_either a.period a.n a.first p.some_period p.some_left h))
