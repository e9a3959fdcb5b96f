use Rattle.xl_fakes.proofs.Disks.{keeps_quiet, keeps_content}
use Rattle.xl_fakes.proofs.Names.{keeps_names}
use Rattle.xl_fakes.proofs.memory_shelf.MemoryShelfShelf.load.Goals as goal

pub returns-clause-quiet : goal.returns-clause-quiet
returns-clause-quiet c = keeps_quiet c.args.self.now c.load_part.new.self c.load_part.ensures.keeps

pub returns-clause-contents : goal.returns-clause-contents
returns-clause-contents c = keeps_content c.args.self.now c.load_part.new.self c.load_part.ensures.keeps

pub returns-clause-known : goal.returns-clause-known
returns-clause-known c = keeps_names c.args.self.now c.load_part.new.self c.load_part.ensures.keeps
