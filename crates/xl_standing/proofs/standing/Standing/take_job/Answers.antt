-- The clean pictures are the document's, whichever slot was taken last.
use Rattle.std.proofs.Common.{◌≡◌, sym, subst}
use Rattle.xl_desk.specs.Needs.{tile_cost}
use Rattle.spec_standing.specs.Now.{Now, IsKeptNow}
use Rattle.xl_desk.proofs.CleanTiles.{are_clean_taken}
use Rattle.xl_desk.proofs.Costs.{job_cost}
use Rattle.xl_standing.proofs.standing.Standing.take_job.Goals as goal

pub job-requires-clause-clean : goal.job-requires-clause-clean
job-requires-clause-clean c =
    are_clean_taken c.self.inside.document c.self.inside.cache c.take.new.self c.self.inside.version c.in-Some.at
    (subst IsKeptNow (sym c.self.view_is) c.requires.kept) c.take.ensures.rest

pub returns-clause-cost : goal.returns-clause-cost
returns-clause-cost c =
    let j = c.in_ok-job.job in
    subst (λ (n : Now). j.cost ≡ tile_cost n.cache n.document j.stack j.at) c.self.view_is
    (job_cost c.self.inside.document c.self.inside.cache c.take.new.self c.self.inside.version c.in-Some.node.0 c.in-Some.at j
    c.take.ensures.rest c.in_ok-job.ensures.stands c.in_ok-job.ensures.cost)
