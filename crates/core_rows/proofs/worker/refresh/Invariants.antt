use Rattle.core_rows.proofs.worker.refresh.Given as goal

abbrev pub ghosts-refresh_with : goal.ghosts-refresh_with
ghosts-refresh_with g a = record { name = a.blank.name; parts = a.blank.parts }
