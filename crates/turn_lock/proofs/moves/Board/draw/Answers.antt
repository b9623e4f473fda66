use Rattle.std.proofs.Common.{rules}
use Rattle.turn_lock.proofs.MoveLemmas.{draw_keeps}
use Rattle.turn_lock.proofs.moves.Board.draw.Goals as goal

pub fetch_add-requires : goal.fetch_add-requires
fetch_add-requires g c = let free = c.requires.turn.0 in (search rules, search rules, draw_keeps _ _ _ _ _ _ _ _ _ g.E.Aim.event free.live free.stage free.none_due c.requires.turn.1 c.requires.baton)
