-- The image rule over the bytes of an image is that of its unused bits and of its device record. Assumes nothing.
use Prim.Native.Nat.{ℕ, ◌/◌, ◌%◌, ◌≤◌, ◌<◌}
use mathlib.Core.Path.{◌≡◌, refl}
use mathlib.Core.Bool.{Bool, true, false, cond}
use mathlib.Core.List.{List}
use native.Mathlib.Omega.{arith}
use lib.Dec.{eqb, ltb}
use borrow.Author.Tests.{ne_eqb, eqb-true, eqb-false, lt-ltb, ltb-true}
use Rattle.bits.specs.Bytes.{byte}
use Rattle.bits.proofs.Bits.{halves, joined}
use Rattle.timer.specs.Timers.{divisor, position_rule}
use Rattle.channels.specs.Channels.{has}
use Rattle.interrupts.specs.Interrupts.{S}
use Rattle.interrupts.proofs.Rule.{ruled, rule_kept}
use Rattle.timers.proofs.Rule.{all_settled, timers_ruled}
use Rattle.device.specs.Whole.{image_rule}
use Rattle.layout.specs.Layout.{interrupts_from, timers_from, device_of}
use Rattle.image.specs.Image.{unused_zero}
use Rattle.demands.specs.Refusals.{PositionRuled, below_divisor, in_mode_0, in_mode_8, ImageRuled, ByteRuleIsRecordRule}
use Rattle.demands.proofs.Decides.{Decides, equal_decided, below_decided, both_decided}

-- ---- a position
-- the rule of a timer looks at its mode and its position alone
abbrev rule : ℕ → ℕ → Bool
rule mode position = cond (eqb (mode % 8) 0) (eqb position 0) (ltb position (divisor mode))

no_divisor : (mode : ℕ) → mode % 8 ≡ 0 → divisor mode ≡ 0
unfolding divisor
no_divisor mode e = rw e refl

position_kept : {mode position : ℕ} → PositionRuled mode position → rule mode position ≡ true
position_kept {mode} {position} (below_divisor h) = rw (ne_eqb (mode % 8) 0 (λ e. let z = no_divisor mode e in omega arith), lt-ltb position (divisor mode) h) refl
position_kept in_mode_0 = refl
position_kept in_mode_8 = refl

position_told : (mode position : ℕ) → mode ≤ 15 → rule mode position ≡ true → PositionRuled mode position
position_told mode position h = go (eqb (mode % 8) 0) (eqb mode 0) refl refl
  where
    go : (b z : Bool) → eqb (mode % 8) 0 ≡ b → eqb mode 0 ≡ z → cond b (eqb position 0) (ltb position (divisor mode)) ≡ true → PositionRuled mode position
    go true true p q e = rw (eqb-true mode 0 q, eqb-true position 0 e) in_mode_0
    go true false p q e =
        let m = eqb-true (mode % 8) 0 p in
        let n : mode ≡ 0 → ⊥ = eqb-false mode 0 q in
        let w : mode ≡ 8 = omega arith in
        rw (w, eqb-true position 0 e) in_mode_8
    go false z p q e = below_divisor (ltb-true _ _ e)

-- ---- the image
module _ (image : List ℕ) where
  unused_decided : Decides (unused_zero image) ((((byte image 16 < 128) × (byte image 16 / 8 % 2 ≡ 0)) × (byte image 29 < 16)) × (byte image 31 < 4))
  unfolding unused_zero
  unused_decided = both_decided _ _ (both_decided _ _ (both_decided _ _ (below_decided _ _) (equal_decided _ _)) (below_decided _ _)) (below_decided _ _)

  to_record : ImageRuled image → (unused_zero image ≡ true) × (image_rule (device_of image) ≡ true)
  unfolding image_rule interrupts_from timers_from position_rule S has
  to_record r = (
    unused_decided.1 ((r.unused_16, r.unused_29), r.unused_31),
    joined _ _
        (rule_kept (interrupts_from image) (record {
          unused = r.unused_13;
          within = r.pending_enabled;
          empty = λ e. let s = eqb-false (byte image 13 / 8 % 2) 1 e in let z = r.service_zero (omega arith) in omega arith;
        }))
        (timers_ruled (timers_from image) (record {
          a = record { mode = r.mode_a; position = position_kept r.position_a };
          b = record { mode = r.mode_b; position = position_kept r.position_b };
          c = record { mode = omega arith; position = position_kept r.position_c };
          d = record { mode = omega arith; position = position_kept r.position_d };
        })),
  )

  to_bytes : (unused_zero image ≡ true) × (image_rule (device_of image) ≡ true) → ImageRuled image
  unfolding image_rule interrupts_from timers_from position_rule S has
  to_bytes t =
      let u = unused_decided.0 t.0 in
      let h = halves _ _ t.1 in
      let i = ruled (interrupts_from image) h.0 in
      let s = all_settled (timers_from image) h.1 in
      record {
        mode_a = s.a.mode;
        mode_b = s.b.mode;
        unused_13 = i.unused;
        unused_16 = u.0.0;
        unused_29 = u.0.1;
        unused_31 = u.1;
        pending_enabled = i.within;
        service_zero = λ e. let z = i.empty (ne_eqb (byte image 13 / 8 % 2) 1 (omega arith)) in (omega arith, omega arith);
        position_a = position_told _ _ s.a.mode s.a.position;
        position_b = position_told _ _ s.b.mode s.b.position;
        position_c = position_told _ _ (omega arith) s.c.position;
        position_d = position_told _ _ (omega arith) s.d.position;
      }

pub byte_rule_is_record_rule : ByteRuleIsRecordRule
byte_rule_is_record_rule image = (to_record image, to_bytes image)
