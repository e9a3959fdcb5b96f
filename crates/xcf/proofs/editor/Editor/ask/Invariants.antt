use Rattle.xcf.proofs.editor.Editor.ask.Given as goal

abbrev pub ghosts-submit : goal.ghosts-submit
ghosts-submit a = record { name = a.blank.name; parts = a.blank.parts }
