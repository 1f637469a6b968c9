-- `countdown::clocks` meets its contract, by the laws over the divisor. Assumes nothing.
use Rattle.countdown.proofs.AtOnce.{idle_clocks, idle_timeouts, clocks_at_once, timeouts_at_once}
use Rattle.countdown.specs.Countdown.{toggled, timeouts_in, counter_after}
use Rattle.timer.proofs.Clocked.{running_divisor}
use Rattle.timer.specs.Timers.{clocks, timeouts}
use mathlib.Core.Path.{refl, ap, ◌∙◌, sym}
use native.Mathlib.Omega.{arith}
use Rattle.countdown.proofs.clocks.Goals as goal
use Rattle.countdown.proofs.clocks.Goals.{then-n-eq0-via-then-n-eq0, then-n-eq0-via-else-n-eq0+then-not-goes}

pub returns-then-n-eq0 : goal.returns-then-n-eq0
unfolding clocks timeouts
returns-then-n-eq0 c =
    let a = c.args in
    elim c.then-n-eq0.branch [
      | then-n-eq0-via-then-n-eq0 w ↦ rw w.if-n-eq0.true (refl, refl)
      | then-n-eq0-via-else-n-eq0+then-not-goes w ↦
          let g = sym w.goes.ensures ∙ w.if-not-goes.true in
          (sym (idle_clocks a.active a.n a.t g), sym (idle_timeouts a.active a.n a.t g))
    ]

pub go_along-a-requires : goal.go_along-a-requires
go_along-a-requires c = let a = c.args in omega (arith, running_divisor a.active a.t (sym c.goes.ensures ∙ c.if-not-goes.false))

pub returns : goal.returns
returns c =
    let a = c.args in
    let g = sym c.goes.ensures ∙ c.if-not-goes.false in
    let e = clocks_at_once a.active a.n a.t g (omega arith) (omega arith) c.if-n-eq0.false in
    let f = timeouts_at_once a.active a.n a.t g in
    let l = c.go_along-a.ensures in
    let k = c.go_down-k.ensures in
    let n = k.0 ∙ ap (λ p. timeouts_in p a.t) l.0 in
    let counter = k.1 ∙ ap (λ p. counter_after p a.t) l.0 in
    let output = c.toggled_by.ensures ∙ ap (λ m. toggled m a.t.output) n in
    ((λ i. record { mode = a.t.mode; reload = a.t.reload; counter = counter i; position = l.1 i; output = output i }) ∙ sym e, n ∙ sym f)
