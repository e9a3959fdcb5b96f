use Rattle.xl_fakes.proofs.Disks.{same_content}
use Rattle.xl_fakes.proofs.Records.{quiet_if}
use Rattle.xl_fakes.proofs.memory_shelf.MemoryShelfShelf.select.Goals as goal

pub returns-clause-quiet : goal.returns-clause-quiet
returns-clause-quiet c = quiet_if c.args.self.now c.select_name.new.self c.select_name.ensures.same c.select_name.ensures.log

pub returns-clause-contents : goal.returns-clause-contents
returns-clause-contents c = same_content c.args.self.now c.select_name.new.self c.select_name.ensures.same
