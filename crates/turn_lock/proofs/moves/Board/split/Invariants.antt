use Rattle.turn_lock.proofs.moves.Board.split.Given as goal

abbrev pub ghosts-cut : goal.ghosts-cut
ghosts-cut g a = record { turns = a.turns; baton = a.baton }
