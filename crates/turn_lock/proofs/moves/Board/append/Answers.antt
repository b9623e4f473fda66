use Rattle.std.proofs.Common.{rules}
use Rattle.turn_lock.proofs.MoveLemmas.{append_keeps}
use Rattle.turn_lock.proofs.moves.Board.append.Goals as goal

pub fetch_add-requires : goal.fetch_add-requires
fetch_add-requires g c = let turn = c.requires.turn in (search rules, search rules, append_keeps _ _ _ _ _ _ _ _ _ turn.1.0 turn.0 turn.1.1 turn.2)
