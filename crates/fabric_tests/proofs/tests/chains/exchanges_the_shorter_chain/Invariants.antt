use Rattle.fabric_tests.proofs.tests.chains.exchanges_the_shorter_chain.Given as goal

abbrev pub ghosts-makes_room : goal.ghosts-makes_room
ghosts-makes_room g a = record { name = a.blank.name; parts = a.blank.parts }
