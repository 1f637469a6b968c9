-- `Change::raising` meets its contract, bit by bit. Assumes nothing.
use Rattle.signals.proofs.Changes.{raising}
use Rattle.signals.proofs.Change.raising.Goals as goal

pub returns : goal.returns
returns c = let a = c.args in raising a.m.a a.m.b a.self.before a.self.after c.unmuted.result c.unmuted.ensures
