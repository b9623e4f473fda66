use Rattle.fabric_tests.proofs.tests.chains.takes_the_lowest_common_slot.Given as goal

abbrev pub ghosts-takes_a_common_slot : goal.ghosts-takes_a_common_slot
ghosts-takes_a_common_slot g a = record { name = a.blank.name; parts = a.blank.parts }
