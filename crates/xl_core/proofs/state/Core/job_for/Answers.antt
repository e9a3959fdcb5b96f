-- The job is of the last version.
use Rattle.std.specs.Prelude.{◌≡◌, false, IfOk, IsOk}
use Rattle.std.proofs.Common.{subst}
use Rattle.spec_standing.specs.History.{version, document}
use Rattle.xl_history.specs.TileJobs.{is_marked, GivesJob}
use Rattle.spec_standing.proofs.GoesOn.{kept-stands, version_is, document_is}
use Rattle.xl_history.specs.Editing.{Editing}
use Rattle.xl_core.proofs.state.Core.job_for.Goals as goal

pub job_for-requires : goal.job_for-requires
job_for-requires g c = record {
  kept = kept-stands c.self.inside.base c.self.inside.entries.items c.self.inside.standing c.self.inside.made c.self.invariant.0;
}

pub returns-clause-job : goal.returns-clause-job
returns-clause-job g c =
    let base = c.self.inside.base in
    let entries = c.self.inside.entries.items in
    let what = c.self.inside.standing in
    let made = c.self.inside.made in
    subst (λ (e : Editing _).
    IfOk c.job_for.result (GivesJob (document e.history) e.cache (version e.history) c.args.node.0 c.args.at)) c.self.view_is
    (subst (λ d. IfOk c.job_for.result (GivesJob d what.cache (version (record { base = base; entries = entries })) c.args.node.0
    c.args.at)) (document_is base entries what made c.self.invariant.0)
    (subst (λ n. IfOk c.job_for.result (GivesJob what.document what.cache n c.args.node.0 c.args.at))
    (version_is base entries what made c.self.invariant.0) c.job_for.ensures.job))

pub returns-clause-none : goal.returns-clause-none
returns-clause-none g c =
    let base = c.self.inside.base in
    let entries = c.self.inside.entries.items in
    let what = c.self.inside.standing in
    let made = c.self.inside.made in
    subst (λ (e : Editing _). is_marked (document e.history) e.cache c.args.node.0 c.args.at ≡ false → IsOk c.job_for.result)
    c.self.view_is
    (subst (λ d. is_marked d what.cache c.args.node.0 c.args.at ≡ false → IsOk c.job_for.result)
    (document_is base entries what made c.self.invariant.0) c.job_for.ensures.none)
