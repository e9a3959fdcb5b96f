use Rattle.xl_commands.proofs.flattening.flatten.Given as goal

abbrev pub ghosts-flat_file : goal.ghosts-flat_file
ghosts-flat_file g a = record { name = a.blank.name; parts = a.blank.parts }
