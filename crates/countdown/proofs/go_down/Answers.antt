-- `countdown::go_down` meets its contract: the counter is a countdown from the data value. Assumes nothing.
use Prim.Native.Nat.{ℕ, ◌%◌}
use Rattle.countdown.proofs.Pulses.{span_pos}
use Rattle.countdown.specs.Countdown.{left, ran_out, timeouts_in, counter_after}
use mathlib.Core.Path.{ap, ap₂, ◌∙◌}
use Rattle.countdown.proofs.go_down.Goals as goal

pub count-c-requires : goal.count-c-requires
count-c-requires c = record { some_left = rw c.span_of.ensures (span_pos _); some_period = rw c.span_of-2.ensures (span_pos _) }

pub returns : goal.returns
unfolding timeouts_in counter_after
returns c =
    let k = c.args.k in
    let spans = ap₂ (λ (p f : ℕ). ran_out p k f) c.span_of-2.ensures c.span_of.ensures in
    let lefts = ap₂ (λ (p f : ℕ). left p k f) c.span_of-2.ensures c.span_of.ensures in
    (c.count-c.ensures.0 ∙ spans, ap (λ (l : ℕ). l % 256) (c.count-c.ensures.1 ∙ lefts))
