use Rattle.call_control.proofs.ObeyLemmas.{pair_holds, pair_moves}
use Rattle.call_control.proofs.operations.CallControl.pair.Goals as goal

pub returns-clause-holds : goal.returns-clause-holds
returns-clause-holds g c d w h = let e = c.pair.ensures in pair_holds d _ _ w h _ c.args.x c.args.y e.holds e.ports e.layout e.sizes

pub returns-clause-moves : goal.returns-clause-moves
returns-clause-moves g c d w h = pair_moves d _ _ w h c.pair.result c.args.x c.args.y c.pair.ensures.moves
