use Rattle.std.proofs.lemmas.Result.{IfOk-weaker}
use Rattle.xl_script.proofs.Scoped.{viewed_result}
use Rattle.xl_script.proofs.parsing.parse_viewed.Goals as goal

pub returns-clause-fits : goal.returns-clause-fits
returns-clause-fits c =
    IfOk-weaker c.read.result _ _ (λ lists viewed. viewed.fits)
    (viewed_result c.args.text.now c.args.filters c.read.result c.read.ensures.read)

pub returns-clause-viewed : goal.returns-clause-viewed
returns-clause-viewed c =
    IfOk-weaker c.read.result _ _ (λ lists viewed. viewed.viewed)
    (viewed_result c.args.text.now c.args.filters c.read.result c.read.ensures.read)
