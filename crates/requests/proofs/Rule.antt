-- An acknowledge keeps the interrupt controller's part of the image rule. Assumes nothing.
use Rattle.std.proofs.Common.{Option, Some, None}
use Prim.Native.Nat.{◌-◌}
use mathlib.Core.Path.{ap, ◌∙◌}
use mathlib.Core.Bool.{Bool, true, false, cond}
use lib.Bits.{bit_or}
use Rattle.channels.specs.Channels.{set_of}
use Rattle.channels.specs.declared.Channel.{Channel}
use Rattle.interrupts.specs.declared.Interrupts.{Interrupts}
use Rattle.interrupts.proofs.Rule.{Ruled, part_within}
use Rattle.requests.specs.Requests.{given, acknowledged_by, acknowledged, highest}

module _ (i : Interrupts) (r : Ruled i) where
  given_ruled : (c : Channel) → Ruled (given c i)
  unfolding given
  given_ruled c = record {
    unused = r.unused;
    within = part_within i.pending i.enabled (65535 - set_of c) r.within;
    empty = λ e. ap (λ (b : Bool). cond b (bit_or i.service (set_of c)) i.service) e ∙ r.empty e;
  }

  pub acknowledged_ruled : (iei : Bool) → Ruled (acknowledged iei i).interrupts
  unfolding acknowledged
  acknowledged_ruled false = r
  acknowledged_ruled true = go (highest i)
    where
      go : (q : Option Channel) → Ruled (acknowledged_by q i).interrupts
      go (Some c) = given_ruled c
      go None = r
