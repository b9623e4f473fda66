use Rattle.call_control.proofs.ObeyLemmas.{clear_holds}
use Rattle.call_control.proofs.operations.CallControl.clear.Goals as goal

pub returns-clause-holds : goal.returns-clause-holds
returns-clause-holds g c d w h = let e = c.clear.ensures in clear_holds d _ _ w h _ c.args.x e.holds e.layout e.sizes
