use Rattle.xcf.proofs.Colours.{colours_are}
use Rattle.xcf.proofs.group.know_colours.Goals as goal

pub returns : goal.returns
returns c = colours_are c.args.bytes.now c.know.ensures c.requires
