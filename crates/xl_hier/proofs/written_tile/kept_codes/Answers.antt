use Rattle.std.proofs.Common.{◌≡◌, sym, ◌∙◌, true}
use Rattle.std.proofs.lemmas.Bool.{OnTrue_at}
use Rattle.std.proofs.lemmas.Option.{IfSome_then}
use Rattle.std.proofs.lemmas.Result.{IfOk-weaker}
use Rattle.spec_hierarchy.specs.BytePlanes.{tile_planes}
use Rattle.xl_hier.proofs.KeptCodes.{kept_fit, stays_by}
use Rattle.xl_hier.proofs.written_tile.kept_codes.Goals as goal

pub returns-then-keeps-clause-codes : goal.returns-then-keeps-clause-codes
returns-then-keeps-clause-codes g c =
    let keeps : g.C.PlaneCoder.keeping ≡ true = sym c.keeps.ensures ∙ c.if-keeps.true in
    IfOk-weaker c.tile_codes.result _ _ (λ found have. IfSome_then found have (λ codes are.
    kept_fit g.C.PlaneCoder.fits (OnTrue_at keeps g.C.PlaneCoder.any_fits) codes (tile_planes 1 c.args.plane.now c.args.spot) are))
    c.tile_codes.ensures

pub returns-then-keeps-clause-followed : goal.returns-then-keeps-clause-followed
returns-then-keeps-clause-followed g c =
    let keeps : g.C.PlaneCoder.keeping ≡ true = sym c.keeps.ensures ∙ c.if-keeps.true in
    IfOk-weaker c.tile_codes.result _ _ (λ found have. IfSome_then found have (λ codes are.
    stays_by g.C.PlaneCoder.follows (OnTrue_at keeps g.C.PlaneCoder.stays) c.args.coder.now
    (tile_planes 1 c.args.plane.now c.args.spot)))
    c.tile_codes.ensures
