use Rattle.xl_props.proofs.ReadBack.{reads_back}
use Rattle.xl_props.proofs.laws.written_props_are_read.Goals as goal

pub returns : goal.returns
returns c = reads_back
