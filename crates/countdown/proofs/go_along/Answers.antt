-- `countdown::go_along` meets its contract: the whole periods of n, and one more where its rest ends the period. Assumes nothing.
use Prim.Native.Nat.{ℕ, ◌+◌, ◌-◌, ◌/◌, ◌%◌, ◌≤◌, ◌<◌}
use Rattle.countdown.proofs.AtOnce.{to_go_bounds}
use Rattle.countdown.proofs.Countdowns.{left_few, times_few, left_more, times_more}
use Rattle.countdown.specs.Countdown.{left, ran_out, to_go, pulses_in, position_after}
use mathlib.Core.Path.{◌≡◌, sym, ap, ◌∙◌}
use native.Mathlib.Nat.{mod-lt}
use native.Mathlib.Omega.{arith}
use Rattle.countdown.proofs.go_along.Goals as goal

-- what n clocks from position p give over the divisor e
abbrev pulses : ℕ → ℕ → ℕ → ℕ
pulses n p e = ran_out e n (to_go e p)

abbrev position : ℕ → ℕ → ℕ → ℕ
position n p e = e - left e n (to_go e p)

-- by the whole periods of d and the rest of n, from a position at which g clocks of a period have gone by
module _ (n p d g : ℕ) (q : 1 ≤ d) (f : g ≡ d - to_go d p) where
  -- the rest stays in its period
  within : n % d + g < d → (n / d ≡ pulses n p d) × (n % d + g ≡ position n p d)
  within h =
      let (a, b) = to_go_bounds d p q in
      let l : n % d < to_go d p = omega arith in
      (sym (times_few d n (to_go d p) a b l), rw (left_few d n (to_go d p) a b l) (omega arith))

  -- or ends it
  beyond : d ≤ n % d + g → (n / d + 1 ≡ pulses n p d) × (n % d + g - d ≡ position n p d)
  beyond h =
      let (a, b) = to_go_bounds d p q in
      let l : to_go d p ≤ n % d = omega arith in
      let k = mod-lt n {m = d} q in
      (sym (times_more d n (to_go d p) a b l), rw (left_more d n (to_go d p) a b l) (omega arith))

pub returns-then-rest-d : goal.returns-then-rest-d
unfolding pulses_in position_after
returns-then-rest-d c =
    let a = c.args in
    let e = c.from-d.ensures ∙ c.divisor_of.ensures in
    let q : 1 ≤ c.from-d.result = omega (arith, e, c.requires) in
    let w = within a.n a.t.position _ c.gone.result q c.gone.ensures c.if-rest-d.true in
    (w.0 ∙ ap (pulses a.n a.t.position) e, w.1 ∙ ap (position a.n a.t.position) e)

pub returns : goal.returns
unfolding pulses_in position_after
returns c =
    let a = c.args in
    let e = c.from-d.ensures ∙ c.divisor_of.ensures in
    let q : 1 ≤ c.from-d.result = omega (arith, e, c.requires) in
    let w = beyond a.n a.t.position _ c.gone.result q c.gone.ensures c.if-rest-d.false in
    (w.0 ∙ ap (pulses a.n a.t.position) e, w.1 ∙ ap (position a.n a.t.position) e)
