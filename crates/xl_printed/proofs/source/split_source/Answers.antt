use Rattle.std.proofs.Common.{arith}
use Rattle.xl_printed.proofs.Sourced.{no_source, a_source}
use Rattle.xl_printed.proofs.source.split_source.Goals as goal

pub returns-in-Some : goal.returns-in-Some
returns-in-Some c = a_source c.args.bytes.now c.in-Some.script.now c.in-Some.output.now (omega arith) c.in-Some.ensures

pub returns-in-None : goal.returns-in-None
returns-in-None c = λ script output is. no_source c.args.bytes.now script output (omega arith) c.in-None.ensures is
