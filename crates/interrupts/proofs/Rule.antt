-- What happens to the interrupt controller keeps its part of the image rule: pending stays within enabled, in-service stays empty where S is 0.
-- Assumes nothing.
use Prim.Native.Nat.{ℕ, ◌+◌, ◌*◌, ◌/◌, ◌%◌, ◌<◌}
use mathlib.Core.Path.{◌≡◌, refl, sym, ap, ap₂, ◌∙◌}
use mathlib.Core.Bool.{Bool, true, false, cond, ◌&&◌, ◌||◌, false≢true, true≢false}
use native.Mathlib.Nat.{mod-lt, lt_of_le_of_lt, div-add-mod', mul-div_cancel}
use native.Mathlib.Omega.{arith}
use lib.Bits.{bit_and, bit_or, and_block, and_shr, and_mod, and_self, and_comm, and_le_l, and_zero_l}
use lib.Dec.{eqb, lit<}
use borrow.Author.Tests.{eq-eqb, eqb-true}
use Rattle.channels.specs.Channels.{has, half, with_half}
use Rattle.interrupts.specs.Interrupts.{kept, S, raised, enabled_written, pending_written, service_written, mask_written, vector_written, interrupt_written, clear_interrupts, interrupt_rule}
use Rattle.interrupts.specs.declared.InterruptRegister.{InterruptRegister}
use Rattle.interrupts.specs.declared.InterruptRegister.TheVariants.{Ier, Ipr, Isr, Imr, Vr}
use Rattle.channels.specs.declared.Half.{Half}
use Rattle.channels.specs.declared.Half.TheVariants.{A, B}
use Rattle.interrupts.specs.declared.Interrupts.{Interrupts}
use Rattle.channels.proofs.Sets.{has_and, has_or, same_set, and_assoc}

-- the rule's three parts
pub record Ruled (i : Interrupts) : Type 0 where
  pub unused : i.vector % 8 ≡ 0
  pub within : bit_and i.pending i.enabled ≡ i.pending
  pub empty : S i.vector ≡ false → i.service ≡ 0

pub ruled : (i : Interrupts) → interrupt_rule i ≡ true → Ruled i
unfolding interrupt_rule
ruled i e = go (eqb (i.vector % 8) 0) (eqb (bit_and i.pending i.enabled) i.pending) (S i.vector) (eqb i.service 0) refl refl refl refl e
  where
    go : (u w s z : Bool) → eqb (i.vector % 8) 0 ≡ u → eqb (bit_and i.pending i.enabled) i.pending ≡ w → S i.vector ≡ s → eqb i.service 0 ≡ z
        → (u && w && (s || z)) ≡ true → Ruled i
    go true true true z a b c d f = record { unused = eqb-true _ _ a; within = eqb-true _ _ b; empty = λ g. absurd (true≢false (sym c ∙ g)) }
    go true true false true a b c d f = record { unused = eqb-true _ _ a; within = eqb-true _ _ b; empty = λ g. eqb-true _ _ d }
    go true true false false a b c d f = absurd (false≢true f)
    go true false s z a b c d f = absurd (false≢true f)
    go false w s z a b c d f = absurd (false≢true f)

pub rule_kept : (i : Interrupts) → Ruled i → interrupt_rule i ≡ true
unfolding interrupt_rule
rule_kept i r = rw (eq-eqb (i.vector % 8) 0 r.unused, eq-eqb (bit_and i.pending i.enabled) i.pending r.within) (go (S i.vector) refl)
  where
    go : (s : Bool) → S i.vector ≡ s → (S i.vector || eqb i.service 0) ≡ true
    go true e = rw e refl
    go false e = rw (e, eq-eqb i.service 0 (r.empty e)) refl

-- ---- pending within enabled
-- what is taken out of a set within e, or kept of it, is within e
pub part_within : (p e m : ℕ) → bit_and p e ≡ p → bit_and (bit_and p m) e ≡ bit_and p m
part_within p e m h = and_assoc p m e ∙ ap (bit_and p) (and_comm m e) ∙ sym (and_assoc p e m) ∙ ap (λ (s : ℕ). bit_and s m) h

raise_bool : (p s e : Bool) → (p && e) ≡ p → ((p || s && e) && e) ≡ (p || s && e)
raise_bool true s true h = refl
raise_bool true s false h = h
raise_bool false true true h = refl
raise_bool false true false h = refl
raise_bool false false e h = refl

raise_within : (p s e : ℕ) → bit_and p e ≡ p → bit_and (bit_or p (bit_and s e)) e ≡ bit_or p (bit_and s e)
raise_within p s e h =
    same_set _ _ λ k. simp (has_and, has_or) (raise_bool (has p k) (has s k) (has e k) (sym (has_and p e k) ∙ ap (λ (n : ℕ). has n k) h))

-- ---- the two registers of a set, one law for both
byte : (n : ℕ) → n % 256 < 256
byte n = mod-lt n (lit< tt)

module _ (p e : ℕ) (h : bit_and p e ≡ p) where
  high_within : bit_and (p / 256) (e / 256) ≡ p / 256
  high_within = sym (and_shr p e 8) ∙ ap (λ (n : ℕ). n / 256) h

  low_within : bit_and (p % 256) (e % 256) ≡ p % 256
  low_within = sym (and_mod p e 8) ∙ ap (λ (n : ℕ). n % 256) h

  -- a write of IPR: what is kept stays within enabled
  pub kept_within : (r : Half) (v : ℕ) → bit_and (kept r p v) e ≡ kept r p v
  unfolding kept with_half half
  kept_within A v =
      ap (bit_and (bit_and (p / 256) v * 256 + p % 256)) (sym (div-add-mod' e 256))
      ∙ and_block 8 (bit_and (p / 256) v) (e / 256) (p % 256) (e % 256) (byte p) (byte e)
      ∙ ap₂ (λ (x y : ℕ). x * 256 + y) (part_within (p / 256) (e / 256) v high_within) low_within
  kept_within B v =
      ap (bit_and (p / 256 * 256 + bit_and (p % 256) v)) (sym (div-add-mod' e 256))
      ∙ and_block 8 (p / 256) (e / 256) (bit_and (p % 256) v) (e % 256) (lt_of_le_of_lt (and_le_l (p % 256) v) (byte p)) (byte e)
      ∙ ap₂ (λ (x y : ℕ). x * 256 + y) high_within (part_within (p % 256) (e % 256) v low_within)

  -- a write of IER: what is kept is within what is stored
  stored_within : (r : Half) (v : ℕ) → v < 256 → bit_and (kept r p v) (with_half r e v) ≡ kept r p v
  unfolding kept with_half half
  stored_within A v b =
      and_block 8 (bit_and (p / 256) v) v (p % 256) (e % 256) (byte p) (byte e)
      ∙ ap₂ (λ (x y : ℕ). x * 256 + y) (and_assoc (p / 256) v v ∙ ap (bit_and (p / 256)) (and_self v)) low_within
  stored_within B v b =
      and_block 8 (p / 256) (e / 256) (bit_and (p % 256) v) v (lt_of_le_of_lt (and_le_l (p % 256) v) (byte p)) b
      ∙ ap₂ (λ (x y : ℕ). x * 256 + y) high_within (and_assoc (p % 256) v v ∙ ap (bit_and (p % 256)) (and_self v))

-- nothing is kept of nothing
kept_none : (r : Half) (v : ℕ) → kept r 0 v ≡ 0
unfolding kept with_half half
kept_none A v = rw (and_zero_l v) refl
kept_none B v = rw (and_zero_l v) refl

-- ---- VR
S_stored : (v : ℕ) → S (v / 8 * 8) ≡ S v
unfolding S has
S_stored v = ap (λ (n : ℕ). eqb (n % 2) 1) (mul-div_cancel (v / 8) (lit< tt))

-- ---- each thing that happens
module _ (i : Interrupts) (r : Ruled i) where
  pub raise_ruled : (s : ℕ) → Ruled (raised s i)
  unfolding raised
  raise_ruled s = record { unused = r.unused; within = raise_within i.pending s i.enabled r.within; empty = r.empty }

  enabled_ruled : (h : Half) (v : ℕ) → v < 256 → Ruled (enabled_written h v i)
  enabled_ruled h v b = record { unused = r.unused; within = stored_within i.pending i.enabled r.within h v b; empty = r.empty }

  pending_ruled : (h : Half) (v : ℕ) → Ruled (pending_written h v i)
  pending_ruled h v = record { unused = r.unused; within = kept_within i.pending i.enabled r.within h v; empty = r.empty }

  service_ruled : (h : Half) (v : ℕ) → Ruled (service_written h v i)
  service_ruled h v = record { unused = r.unused; within = r.within; empty = λ e. ap (λ (s : ℕ). kept h s v) (r.empty e) ∙ kept_none h v }

  mask_ruled : (h : Half) (v : ℕ) → Ruled (mask_written h v i)
  mask_ruled h v = record { unused = r.unused; within = r.within; empty = r.empty }

  vector_ruled : (v : ℕ) → Ruled (vector_written v i)
  unfolding vector_written
  vector_ruled v = record { unused = omega arith; within = r.within; empty = λ e. ap (λ (b : Bool). cond b i.service 0) (sym (S_stored v) ∙ e) }

  -- a write of any register
  pub written_ruled : (x : InterruptRegister) (v : ℕ) → v < 256 → Ruled (interrupt_written x v i)
  unfolding interrupt_written
  written_ruled (Ier h) v b = enabled_ruled h v b
  written_ruled (Ipr h) v b = pending_ruled h v
  written_ruled (Isr h) v b = service_ruled h v
  written_ruled (Imr h) v b = mask_ruled h v
  written_ruled Vr v b = vector_ruled v

pub clear_ruled : Ruled clear_interrupts
unfolding S has
clear_ruled = record { unused = refl; within = refl; empty = λ e. refl }
