use Rattle.turn_lock.proofs.moves.Board.step.Given as goal

abbrev pub ghosts-begin : goal.ghosts-begin
ghosts-begin g a = record { event = a.event }
