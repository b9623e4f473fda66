use Rattle.std.proofs.Common.{rules, sym, subst}
use Rattle.turn_lock.specs.Moves.{KnowsAll}
use Rattle.turn_lock.proofs.MoveLemmas.{join_keeps, meet_keeps}
use Rattle.turn_lock.proofs.moves.Board.join.Goals as goal

pub join_seat-requires : goal.join_seat-requires
join_seat-requires g c = let free = c.requires.chief.0 in let other = c.requires.other in (search rules, search rules, other.slots, search rules, join_keeps _ _ _ _ _ _ _ _ _ _ free.live free.stage c.requires.chief.1 other.live other.stage other.none_due)

pub load-requires : goal.load-requires
load-requires g c = let free = c.requires.chief.0 in (search rules, search rules, meet_keeps _ _ _ _ _ _ _ _ _ (search (rules, free.live)) (search (rules, free.stage)) (search (rules, free.none_due)) (search rules))

pub returns-clause-settled : goal.returns-clause-settled
returns-clause-settled g c = let met = c.load.ensures.2 in subst (λ m. KnowsAll m.0) (sym met.0) met.3

pub returns-clause-within : goal.returns-clause-within
returns-clause-within g c = (returns-clause-settled g c).within
