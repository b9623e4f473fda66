use Rattle.path_memory.proofs.memory.PathMemory.connect_in_common_slot.Given as goal

abbrev pub ghosts-common_slot : goal.ghosts-common_slot
ghosts-common_slot a = record { name = a.blank.name; parts = a.blank.parts }
