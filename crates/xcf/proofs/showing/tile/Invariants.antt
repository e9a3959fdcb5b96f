use Rattle.xcf.proofs.showing.tile.Given as goal

abbrev pub ghosts-compose_tile : goal.ghosts-compose_tile
ghosts-compose_tile a = record { name = a.blank.name; parts = a.blank.parts }
