use Rattle.fabric_tests.proofs.tests.matrices.finds_the_lowest_free_slot.Given as goal

abbrev pub ghosts-are_free : goal.ghosts-are_free
ghosts-are_free g a = record { name = a.blank.name; parts = a.blank.parts }
