use Rattle.picture_rows.proofs.jobs.composed_job.Given as goal

abbrev pub ghosts-compose_by : goal.ghosts-compose_by
ghosts-compose_by g a = record { name = a.blank.name; parts = a.blank.parts }
