use Rattle.xl_compose.proofs.pictures.RecomposePictures.fill.Given as goal

abbrev pub ghosts-stack_picture : goal.ghosts-stack_picture
ghosts-stack_picture a = record { name = a.blank.name; parts = a.blank.parts }
