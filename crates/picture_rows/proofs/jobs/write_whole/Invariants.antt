use Rattle.picture_rows.proofs.jobs.write_whole.Given as goal

abbrev pub ghosts-recompose_by : goal.ghosts-recompose_by
ghosts-recompose_by a = record { name = a.blank.name; parts = a.blank.parts }
