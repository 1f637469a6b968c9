-- One record more or less of a tape: what the check does with it. Assumes nothing.
use Rattle.std.specs.Prelude.{Result, Ok, Err}
use Prim.Native.Nat.{ℕ, ◌+◌, ◌-◌, ◌*◌, ◌<◌}
use mathlib.Core.Path.{◌≡◌, refl, sym, ap, ◌∙◌}
use mathlib.Core.List.{List}
use Rattle.events.specs.declared.Event.{Event}
use Rattle.events.specs.declared.Refusal.{Refusal}
use Rattle.record.specs.Records.{record_bytes}
use Rattle.tape.specs.Tapes.{decoded}
use Rattle.checks.specs.Checks.{bad_at, first_bad_at, first_bad}
use Rattle.record.proofs.Verdicts.{Holds}
use Rattle.tape.proofs.Tapes.{more}

module _ (tape : List ℕ) (i n : ℕ) (h : i < n) where
  -- the check at the i-th of n records
  check_at : first_bad tape i (n - i) ≡ first_bad_at (decoded tape (i * record_bytes)) i (first_bad tape (i + 1) (n - (i + 1)))
  unfolding first_bad
  check_at = ap (first_bad tape i) (more tape i n h)

  pub check_bad : (r : Refusal) → decoded tape (i * record_bytes) ≡ Err r → first_bad tape i (n - i) ≡ bad_at r i
  check_bad r e = check_at ∙ ap (λ (d : Result Event Refusal). first_bad_at d i (first_bad tape (i + 1) (n - (i + 1)))) e

  pub check_valid : (e : Event) → decoded tape (i * record_bytes) ≡ Ok e → first_bad tape i (n - i) ≡ first_bad tape (i + 1) (n - (i + 1))
  check_valid e p = check_at ∙ ap (λ (d : Result Event Refusal). first_bad_at d i (first_bad tape (i + 1) (n - (i + 1)))) p

  -- a record that the check lets pass has an event
  pub check_fine : first_bad tape i (n - i) ≡ Ok tt → Holds (decoded tape (i * record_bytes))
  check_fine f = go (decoded tape (i * record_bytes)) refl
    where
      go : (d : Result Event Refusal) → decoded tape (i * record_bytes) ≡ d → Holds (decoded tape (i * record_bytes))
      go (Ok x) p = record { event = x; is = p }
      go (Err r) p = let b : bad_at r i ≡ Ok tt = sym (check_bad r p) ∙ f in absurd (cc)

-- past the last record
pub check_none : (tape : List ℕ) (i : ℕ) → first_bad tape i 0 ≡ Ok tt
unfolding first_bad
check_none tape i = refl
