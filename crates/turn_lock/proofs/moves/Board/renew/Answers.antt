use Rattle.std.proofs.Common.{rules}
use Rattle.turn_lock.proofs.MoveLemmas.{renew_keeps}
use Rattle.turn_lock.proofs.TurnLemmas.{turn_kept}
use Rattle.turn_lock.proofs.moves.Board.renew.Goals as goal

pub load-requires : goal.load-requires
load-requires g c = let kept = c.requires.turn.0 in (search rules, search rules, renew_keeps _ _ _ _ _ _ _ _ _ g.E.Aim.event kept.served.0 kept.live kept.served.1 kept.none_due c.requires.turn.1 c.requires.baton)

pub returns-clause-begun : goal.returns-clause-begun
returns-clause-begun g c = let T = g.S.Stepper in let e = c.load.ensures.2 in turn_kept T.setting T.journal T.room T.reserved g.E.Aim.event _ _ c.requires.turn.0 e.0 e.1 e.2
