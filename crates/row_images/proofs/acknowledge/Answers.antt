-- `row_images::acknowledge` meets its contract: refused, nothing is altered; done, the row's images and what is told. Assumes nothing.
use Rattle.std.proofs.Common.{rules, arith, ◌≡◌, Result, Ok, Err, refl, sym, ◌∙◌}
use Rattle.events.specs.declared.RefusedAt.{RefusedAt}
use Rattle.row_images.proofs.Results.{let_through, all_kept, done}
use Rattle.row_images.specs.RowImages.{row_told, row_images}
use Rattle.row_images.proofs.acknowledge.Goals as goal

pub returns-in_err-check : goal.returns-in_err-check
returns-in_err-check c = go c.check.result refl
  where
    go : (v : Result (Unit {0}) RefusedAt) → c.check.result ≡ v → (c.from_residual.result ≡ row_told c.args.images.now) × (c.args.images.now ≡ row_images c.args.images.now)
    go (Ok u) e = absurd (search rules)
    go (Err r) e =
        let k : c.from_residual.result ≡ Err r = search rules in
        let d = all_kept c.args.images.now r (sym c.check.ensures ∙ e) in
        (k ∙ d.0, d.1)

pub acknowledge_images-requires : goal.acknowledge_images-requires
acknowledge_images-requires c =
    let k : c.check.result ≡ Ok tt = search rules in
    let p = let_through c.args.images.now (sym c.check.ensures ∙ k) in
    let s = p.short in
    record { even = p.even; at_most_a_row = omega arith; accepted = p.clear }

pub returns : goal.returns
returns c =
    let k : c.check.result ≡ Ok tt = search rules in
    let d = done c.args.images.now (sym c.check.ensures ∙ k) in
    let e = c.acknowledge_images.ensures in
    rw (e.0, e.1) d
