use Rattle.std.proofs.Common.{arith}
use Rattle.exchange_run.proofs.Making.{changes_done, changes_none}
use Rattle.exchange_run.proofs.changing.change_at.Goals as goal

pub returns-in_ok-say_at-clause-done : goal.returns-in_ok-say_at-clause-done
returns-in_ok-say_at-clause-done g c =
    changes_done _ _ _ _ _ _ c.requires.rising c.requires.at c.end_of-end.ensures _ _ _ _ _ _ c.in_ok-say_at.ensures.says (rw c.say_at.ensures.kept at c.move_at.ensures)

pub returns-else-start-end-clause-done : goal.returns-else-start-end-clause-done
returns-else-start-end-clause-done g c = changes_none _ _ _ _ _ _ c.requires.rising c.requires.at c.end_of-end.ensures _ _ _ (omega (arith, c.if-start-end.false))
