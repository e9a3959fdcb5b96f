use Rattle.core_rows.proofs.bench.next.Given as goal

abbrev pub ghosts-compose_next : goal.ghosts-compose_next
ghosts-compose_next g a = record { name = a.blank.name; parts = a.blank.parts }
