-- `row_images::check` meets its contract, refusal by refusal: an image is refused with its index, or passed over. Assumes nothing.
use Rattle.std.proofs.Common.{rules, arith, ◌≡◌, ◌*◌, ◌<◌, ◌⊎◌, [], Result, Ok, Err, length, refl, sym, inl, inr, ◌∙◌}
use Rattle.events.specs.declared.RefusedAt.{RefusedAt}
use Rattle.layout.specs.Layout.{image_bytes}
use Rattle.row.specs.Rows.{row_most}
use Rattle.checks.specs.Checks.{bad_at}
use Rattle.row_images.specs.RowImages.{images, row_check}
use Rattle.row_images.proofs.Checks.{checked_none, checked_more, checked_bad, checked_all}
use Rattle.row_images.proofs.Results.{unfit, uneven, by_images}
use borrow.Author.Tests.{eqb-true, eqb-false}
use Rattle.row_images.proofs.check.Goals as goal
use Rattle.row_images.proofs.check.Goals.{then-is_empty-via-then-is_empty, then-is_empty-via-else-is_empty+then-images}

pub returns-then-is_empty : goal.returns-then-is_empty
returns-then-is_empty c = rw c.into.ensures (sym (unfit c.args.images.now long))
  where
    long : (length c.args.images.now ≡ 0) ⊎ (row_most * image_bytes < length c.args.images.now)
    long = elim c.then-is_empty.branch [
      | then-is_empty-via-then-is_empty w ↦ inl (eqb-true _ _ (sym c.is_empty.ensures ∙ w.if-is_empty.true))
      | then-is_empty-via-else-is_empty+then-images w ↦ inr w.if-images.true
    ]

pub returns-then-not-is_empty : goal.returns-then-not-is_empty
returns-then-not-is_empty c =
    let e = eqb-false _ _ (sym c.is_empty.ensures ∙ c.if-is_empty.false) in
    let r = eqb-false _ _ (sym c.is_empty-2.ensures ∙ c.if-not-is_empty.true) in
    let l = c.as_chunks.ensures.back_len in
    rw c.into-then-not-is_empty.ensures (sym (uneven c.args.images.now e c.if-images.false (λ z. r (l ∙ z))))

pub loop-i-init : goal.loop-i-init
loop-i-init c = checked_none c.args.images.now (images c.args.images.now)

pub returns-in_err-map_err : goal.returns-in_err-map_err
returns-in_err-map_err c = go c.check_image.result refl
  where
    go : (v : Result (Unit {0}) RefusedAt) → c.check_image.result ≡ v → c.from_residual.result ≡ row_check c.args.images.now
    go (Ok u) e = absurd (search rules)
    go (Err r) e =
        let b = c.args.images.now in
        let i = c.loop-i.i-counter in
        let k : c.from_residual.result ≡ bad_at r.refusal i = search rules in
        let f = c.as_chunks.ensures.front_len in
        let n = eqb-false _ _ (sym c.is_empty.ensures ∙ c.if-is_empty.false) in
        let z = eqb-true _ _ (sym c.is_empty-2.ensures ∙ c.if-not-is_empty.false) in
        let l = c.as_chunks.ensures.back_len in
        k ∙ sym (by_images b n c.if-images.false (sym l ∙ z) ∙ checked_bad b (images b) i c.loop-i.invariant _ _ [] (omega arith) c.as_chunks.ensures.front refl r (sym c.check_image.ensures ∙ e))

pub loop-i-preserved : goal.loop-i-preserved
loop-i-preserved c =
    let b = c.args.images.now in
    let f = c.as_chunks.ensures.front_len in
    let k : c.check_image.result ≡ Ok tt = search rules in
    checked_more b (images b) c.loop-i.i-counter c.loop-i.invariant _ _ [] (omega arith) c.as_chunks.ensures.front refl (sym c.check_image.ensures ∙ k)

pub returns : goal.returns
returns c =
    let b = c.args.images.now in
    let f = c.as_chunks.ensures.front_len in
    let n = eqb-false _ _ (sym c.is_empty.ensures ∙ c.if-is_empty.false) in
    let z = eqb-true _ _ (sym c.is_empty-2.ensures ∙ c.if-not-is_empty.false) in
    let l = c.as_chunks.ensures.back_len in
    sym (by_images b n c.if-images.false (sym l ∙ z) ∙ checked_all b (images b) c.loop-i.i-counter c.loop-i.invariant (omega arith))
