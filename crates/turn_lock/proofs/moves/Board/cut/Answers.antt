use Rattle.std.proofs.Common.{rules, sym, ◌∙◌}
use Rattle.turn_lock.proofs.MoveLemmas.{split_keeps}
use Rattle.turn_lock.proofs.moves.Board.cut.Goals as goal

pub split_seat-requires : goal.split_seat-requires
split_seat-requires g c = let free = c.requires.chief.0 in (search rules, search rules, split_keeps _ _ _ _ _ _ _ _ g.G.Gift.turns g.G.Gift.baton free.live free.stage free.none_due c.requires.chief.1 (search rules) (λ on. c.requires.baton.1 (sym c.requires.baton.0 ∙ on)))
