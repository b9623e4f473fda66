use Rattle.fabric_tests.proofs.tests.matrices.finds_paths_by_row_and_by_column.Given as goal

abbrev pub ghosts-are_found : goal.ghosts-are_found
ghosts-are_found g a = record { name = a.blank.name; parts = a.blank.parts }
