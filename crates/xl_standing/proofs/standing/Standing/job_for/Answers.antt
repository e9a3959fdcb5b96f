-- A clean slot's picture is the document's, and so a job takes it.
use Rattle.std.proofs.Common.{sym, ◌∙◌, subst}
use Rattle.xl_desk.specs.TileJobs.{IsJobFor}
use Rattle.spec_standing.specs.Now.{Now, IsKeptNow}
use Rattle.xl_desk.proofs.CleanTiles.{are_clean}
use Rattle.xl_standing.proofs.standing.Standing.job_for.Goals as goal

pub job-requires-clause-clean : goal.job-requires-clause-clean
job-requires-clause-clean c =
    are_clean c.self.inside.document c.self.inside.cache c.self.inside.version c.args.at
    (subst IsKeptNow (sym c.self.view_is) c.requires.kept)

pub returns-clause-job : goal.returns-clause-job
returns-clause-job c =
    subst (λ (n : Now). IsJobFor n.document n.cache n.version c.args.node.0 c.args.at c.in_ok-job.job) c.self.view_is (record {
      marked = sym c.is_tile_marked.ensures ∙ c.if-not-is_tile_marked.false;
      stands = c.in_ok-job.ensures.stands;
      cost = c.in_ok-job.ensures.cost;
    })
