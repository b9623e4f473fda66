use Rattle.turn_lock.proofs.TurnLemmas.{turn_drawn}
use Rattle.turn_lock.proofs.moves.Board.draw_and_wait.Goals as goal

pub returns-clause-begun : goal.returns-clause-begun
returns-clause-begun g c = let T = g.S.Stepper in let d = c.draw-ticket.ensures in turn_drawn T.setting T.journal T.room T.reserved _ g.E.Aim.event _ _ _ c.requires.turn.0 d.view d.slots c.wait.ensures.gets
