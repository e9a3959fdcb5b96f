use Rattle.xl_script.proofs.Colours.{colours_set}
use Rattle.xl_script.proofs.structure.colours.Goals as goal

pub returns : goal.returns
returns c = colours_set _ c.in_ok-word.word.text.now _ c.in_ok-word.ensures.words c.in_ok-bytes.ensures
