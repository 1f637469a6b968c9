-- `clients::load_then_save` meets its contract. Assumes nothing.
use Rattle.clients.proofs.Relied.{loaded_and_saved, refused_and_kept}
use mathlib.Core.Path.{refl, sym, ◌∙◌}
use Rattle.clients.proofs.load_then_save.Goals as goal

pub returns-in_err-d : goal.returns-in_err-d
returns-in_err-d c = refused_and_kept c.args.image.now _ _ _ (sym c.load.ensures ∙ c.in_err-d.was) refl

pub returns : goal.returns
returns c = let a = c.args in loaded_and_saved _ a.image.now _ _ (λ k. (c.slice_known-1.given k).fits) (sym c.load.ensures ∙ c.in_ok-d.was) c.save.ensures.0 c.save.ensures.1
