use Rattle.std.proofs.Common.{subst}
use Rattle.xl_script.specs.Gives.{ScriptOf}
use Rattle.xl_script.proofs.Fits.{script_fits}
use Rattle.xl_script.proofs.Scoped.{whole_script}
use Rattle.xl_script.proofs.parsing.parse.Goals as goal

pub returns-clause-read : goal.returns-clause-read
returns-clause-read c =
    subst (λ r. ScriptOf c.read.result r) (whole_script c.args.text.now c.args.chests.now) c.read.ensures.read

pub returns-clause-fits : goal.returns-clause-fits
returns-clause-fits c =
    let read = subst (λ r. ScriptOf c.read.result r) (whole_script c.args.text.now c.args.chests.now) c.read.ensures.read in
    script_fits c.args.text.now c.args.chests.now c.read.result read
