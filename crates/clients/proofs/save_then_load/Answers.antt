-- `clients::save_then_load` meets its contract. Assumes nothing.
use Rattle.clients.proofs.Relied.{saved_and_loaded}
use Rattle.clients.proofs.save_then_load.Goals as goal

pub returns : goal.returns
returns c = let a = c.args in saved_and_loaded a.d a.image.now _ _ _ c.save-saved.ensures.0 c.save-saved.ensures.1 c.load-loaded.ensures
