use Rattle.fabric_map.proofs.fabric.FabricMapPathMap.connect.Given as goal

abbrev pub ghosts-connect_by_moves : goal.ghosts-connect_by_moves
ghosts-connect_by_moves a = record { name = a.blank.name; parts = a.blank.parts }
