-- `step::begin_acknowledge` meets its contract. Assumes nothing.
use Rattle.device.specs.Whole.{with_interrupts}
use Rattle.step.specs.Events.{replied, effect_of}
use Rattle.step.specs.Private.{finished}
use Rattle.step.specs.declared.Begun.{Begun}
use mathlib.Core.Path.{ap, ◌∙◌}
use Rattle.step.proofs.begin_acknowledge.Goals as goal

pub returns : goal.returns
unfolding effect_of
returns c =
    let d = c.args.d in
    ap (λ (b : Begun). finished b d) c.whole.ensures ∙ (λ k. record {
      device = with_interrupts (c.acknowledge-reply.ensures k).interrupts d;
      answer = (c.replied.ensures ∙ (λ i. replied (c.acknowledge-reply.ensures i).reply)) k;
      timeouts = c.zero.ensures k;
    })
