use Rattle.picture_rows.proofs.rows.lay_pixels.Given as goal

abbrev pub ghosts-lay : goal.ghosts-lay
ghosts-lay a = record { name = a.blank.name; parts = a.blank.parts }
