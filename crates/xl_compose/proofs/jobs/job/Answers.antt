use Rattle.std.proofs.Common.{◌∙◌, ap}
use Rattle.std.proofs.lemmas.Result.{IfOk-weaker}
use Rattle.xl_compose.proofs.JobPieces.{planned_costs, planned_stands}
use Rattle.xl_compose.proofs.jobs.job.Goals as goal

pub returns-clause-stands : goal.returns-clause-stands
returns-clause-stands g c =
    IfOk-weaker c.new.result _ _ (λ job is.
    planned_stands c.in_ok-pile.pile.levels c.args.doc.now c.args.node.0 c.args.at c.args.version c.in_ok-colours.colours
    c.band_of-band.result c.in_ok-pile.pile.pieces.items job is
    (c.in_ok-colours.ensures ∙ ap (λ d. d.colours) c.doc.view_is) c.band_of-band.ensures.is c.in_ok-pile.ensures.made)
    c.new.ensures

pub returns-clause-cost : goal.returns-clause-cost
returns-clause-cost g c =
    IfOk-weaker c.new.result _ _ (λ job is.
    planned_costs c.args.doc.now c.args.node.0 c.args.at c.args.version c.in_ok-colours.colours c.band_of-band.result
    c.in_ok-pile.pile.pieces.items job _ is
    c.band_of-band.ensures.is c.in_ok-pile.ensures.cost) c.new.ensures
