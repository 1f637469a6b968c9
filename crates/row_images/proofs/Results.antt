-- The whole call: refused, the row is as it came; done, the row's images and what is told. Assumes nothing.
use Prim.Native.Nat.{ℕ, ◌*◌, ◌%◌, ◌≤◌, ◌<◌}
use Rattle.std.specs.Prelude.{Result, Ok, Err}
use mathlib.Core.Path.{◌≡◌, refl, ap, ◌∙◌}
use mathlib.Core.Logic.{◌⊎◌, inl, inr}
use mathlib.Core.Bool.{Bool, true, false, cond, ◌&&◌}
use mathlib.Core.List.{List}
use native.Mathlib.Omega.{arith}
use lib.Dec.{eqb, ltb, leb}
use lib.ListN.{length}
use borrow.Author.Tests.{eq-eqb, ne_eqb, lt-ltb, le-leb, ltb-true, leb-true, eqb-true}
use Rattle.events.specs.declared.Refusal.TheVariants.{ImageLength, RowLength}
use Rattle.events.specs.declared.RefusedAt.{RefusedAt}
use Rattle.events.specs.Numbers.{returned}
use Rattle.checks.specs.Checks.{bad_at, result_code}
use Rattle.checks.proofs.Checks.{returned_above, nothing_refused}
use Rattle.std.proofs.lemmas.Bool.Decides.{nat_tests}
use Rattle.layout.specs.Layout.{image_bytes}
use Rattle.row.specs.Rows.{row_most, acknowledged_row, devices_of, given_from, fitting, all_keep, row_answer, row_after}
use Rattle.row_images.specs.RowImages.{images, row, images_of, fitting_bytes, first_refused, row_check, row_code, told_by, row_told, as_number, row_result, row_images}
use Rattle.row_images.proofs.Checks.{row_long, kept_by_all}

module _ (b : List ℕ) where
  -- ---- the refusals in their order
  pub unfit : (length b ≡ 0) ⊎ (row_most * image_bytes < length b) → row_check b ≡ bad_at RowLength 0
  unfolding row_check
  unfit h = let f : fitting_bytes (length b) ≡ false = grind (arith, nat_tests) in rw f refl

  pub empty : length b ≡ 0 → row_code b ≡ returned RowLength 0
  empty e = ap result_code (unfit (inl e))

  pub too_long : row_most * image_bytes < length b → row_code b ≡ returned RowLength 0
  too_long h = ap result_code (unfit (inr h))

  module _ (some : length b ≡ 0 → ⊥) (short : length b ≤ row_most * image_bytes) where
    fits_bytes : fitting_bytes (length b) ≡ true
    fits_bytes = grind (arith, nat_tests)

    pub uneven : (length b % image_bytes ≡ 0 → ⊥) → row_check b ≡ bad_at ImageLength 0
    unfolding row_check
    uneven h = rw (fits_bytes, ne_eqb _ _ h) refl

    pub by_images : length b % image_bytes ≡ 0 → row_check b ≡ first_refused 0 (images b) b
    unfolding row_check
    by_images e = rw (fits_bytes, eq-eqb _ _ e) refl

  -- ---- what a row without a refusal has shown
  pub record Passed : Type 0 where
    pub some : 0 < length b
    pub short : length b ≤ row_most * image_bytes
    pub even : length b % image_bytes ≡ 0
    pub clear : first_refused 0 (images b) b ≡ Ok tt

  by_tests : (x y z : Bool) → ltb 0 (length b) ≡ x → leb (length b) (row_most * image_bytes) ≡ y → eqb (length b % image_bytes) 0 ≡ z
      → cond (x && y) (cond z (first_refused 0 (images b) b) (bad_at ImageLength 0)) (bad_at RowLength 0) ≡ Ok tt → Passed
  by_tests true true true p q r e = record { some = ltb-true _ _ p; short = leb-true _ _ q; even = eqb-true _ _ r; clear = e }
  by_tests true true false p q r e = absurd (cc)
  by_tests true false z p q r e = absurd (cc)
  by_tests false y z p q r e = absurd (cc)

  pub let_through : row_check b ≡ Ok tt → Passed
  unfolding row_check
  let_through e = by_tests (ltb 0 (length b)) (leb (length b) (row_most * image_bytes)) (eqb (length b % image_bytes) 0) refl refl refl e

  -- and so of one whose code is 0
  pub passed : row_code b ≡ 0 → Passed
  passed e = let_through (nothing_refused _ e)

  -- ---- the call
  -- "A refusal leaves the whole row unchanged."
  pub all_kept : (r : RefusedAt) → row_check b ≡ Err r → (Err r ≡ row_told b) × (b ≡ row_images b)
  unfolding row_told row_images
  all_kept r e = rw (e, ne_eqb _ _ (returned_above r.refusal r.index)) (refl, refl)

  -- and so of one whose code is not 0
  pub refused : (c : ℕ) → c ≡ row_code b → (c ≡ 0 → ⊥) → (c ≡ row_result b) × (b ≡ row_images b)
  refused c e h = go (row_check b) refl
    where
      go : (k : Result (Unit {0}) RefusedAt) → row_check b ≡ k → (c ≡ row_result b) × (b ≡ row_images b)
      go (Ok u) p = absurd (h (e ∙ ap result_code p))
      go (Err r) p = let w = all_kept r p in (e ∙ ap result_code p ∙ ap as_number w.0, w.1)

  module _ (p : Passed) where
    fits : fitting (length (row b)) ≡ true
    fits =
        let s = p.some in
        let t = p.short in
        let m = p.even in
        rw (row_long (images b) b, lt-ltb 0 (images b) (omega arith), le-leb (images b) row_most (omega arith)) refl

    keep : all_keep (row b) ≡ true
    keep = kept_by_all (images b) 0 b p.clear

    pub answer_is : row_answer (row b) ≡ Ok (given_from 0 (acknowledged_row (row b)))
    unfolding row_answer
    answer_is = rw (fits, keep) refl

    pub after_is : row_after (row b) ≡ devices_of (acknowledged_row (row b))
    unfolding row_after
    after_is = rw (fits, keep) refl

  pub done : row_check b ≡ Ok tt → (Ok (told_by (images b) (given_from 0 (acknowledged_row (row b)))) ≡ row_told b) × (images_of (devices_of (acknowledged_row (row b))) ≡ row_images b)
  unfolding row_told row_images
  done e = let p = let_through e in rw (e, answer_is p, after_is p) (refl, refl)
