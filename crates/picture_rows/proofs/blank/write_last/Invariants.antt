use Rattle.picture_rows.proofs.blank.write_last.Given as goal

abbrev pub ghosts-last_tile : goal.ghosts-last_tile
ghosts-last_tile a = record { name = a.blank.name; parts = a.blank.parts }
