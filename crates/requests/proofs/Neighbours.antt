-- What an acknowledge does to each channel. The failure that this part must make impossible is an acknowledge that
-- clears a neighbour's pending bit: `acknowledge_clears_one` says that it clears its own channel's and no other. Assumes nothing.
use Rattle.std.proofs.Common.{Some}
use Prim.Native.Nat.{ℕ, ◌-◌, ◌^◌, ◌<◌}
use mathlib.Core.Path.{◌≡◌, refl, ap, ◌∙◌}
use mathlib.Core.Bool.{Bool, true, cond, not, ◌&&◌, ◌||◌, beq}
use lib.Dec.{eqb}
use borrow.Author.Tests.{lt-ltb}
use Rattle.channels.specs.Channels.{has, set_of}
use Rattle.interrupts.specs.Interrupts.{S}
use Rattle.requests.specs.Requests.{given, highest, acknowledged}
use Rattle.channels.specs.declared.Channel.{Channel}
use Rattle.interrupts.specs.declared.Interrupts.{Interrupts}
use Rattle.channels.proofs.Tables.{all_below, everywhere, same}
use Rattle.channels.proofs.Sets.{has_and, has_or, has_set_of}
use Rattle.requests.proofs.Requests.{requesting_below, vectored}

-- all channels but one
others : ℕ → ℕ → Bool
others c k = beq (has (65535 - 2 ^ c) k) (not (eqb c k))

has_others : (c k : ℕ) → c < 16 → k < 16 → has (65535 - 2 ^ c) k ≡ not (eqb c k)
unfolding others has
has_others c k h l = same _ _ (everywhere 16 (others c) (everywhere 16 (λ (c : ℕ). all_below 16 (others c)) tt c h) k l)

-- ---- an acknowledge that gives channel c's vector clears c's pending bit and touches no neighbour
module _ (i : Interrupts) (c : Channel) (h : highest i ≡ Some c) where
  pub acknowledge_clears_one : (k : ℕ) → k < 16 → has (acknowledged true i).interrupts.pending k ≡ (has i.pending k && not (eqb c.0 k))
  unfolding given set_of
  acknowledge_clears_one k l =
      ap (λ a. has a.interrupts.pending k) (vectored true i c refl h)
      ∙ has_and _ _ k
      ∙ ap (λ (b : Bool). has i.pending k && b)
      (ap (λ (b : Bool). has (65535 - cond b (2 ^ c.0) 0) k) (lt-ltb _ _ (requesting_below i c h)) ∙ has_others c.0 k (requesting_below i c h) l)

  pub acknowledge_serves_one : S i.vector ≡ true → (k : ℕ) → has (acknowledged true i).interrupts.service k ≡ (has i.service k || eqb c.0 k)
  unfolding given
  acknowledge_serves_one s k =
      ap (λ a. has a.interrupts.service k) (vectored true i c refl h)
      ∙ rw s (has_or _ _ k ∙ ap (λ (b : Bool). has i.service k || b) (has_set_of c k (requesting_below i c h)))
