use Rattle.call_control.proofs.ObeyLemmas.{hears_at_idle_silent, seat_holds, seat_moves}
use Rattle.call_control.proofs.operations.CallControl.seat.Goals as goal

pub seat-requires-clause-idle : goal.seat-requires-clause-idle
seat-requires-clause-idle g c = let can = c.requires.can in hears_at_idle_silent can.0 _ _ can.1 can.2 c.args.x can.3.idle

pub returns-clause-holds : goal.returns-clause-holds
returns-clause-holds g c d w h = let e = c.in-Ok.ensures in seat_holds d _ _ w h _ c.args.x c.args.room e.holds e.layout e.sizes

pub returns-clause-moves : goal.returns-clause-moves
returns-clause-moves g c d w h = let e = c.in-Ok.ensures in seat_moves d _ _ w h _ c.args.x c.args.room _ e.holds e.moves
