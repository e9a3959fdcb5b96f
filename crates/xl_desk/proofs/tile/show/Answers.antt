-- A clean slot's picture is the document's.
use Rattle.std.proofs.Common.{◌+◌, ◌≤◌, sym, ◌∙◌, subst, true≢false}
use Rattle.xl_desk.proofs.CleanTiles.{are_clean, copied_is, marked-where, shows-clean, shows-done}
use Rattle.xl_desk.proofs.tile.show.Goals as goal

pub job-requires-clause-clean : goal.job-requires-clause-clean
job-requires-clause-clean g c = are_clean c.args.document.now c.args.cache.now c.args.version c.args.tile.1 c.requires.kept

pub returns-then-copy_clean-clause-picture : goal.returns-then-copy_clean-clause-picture
returns-then-copy_clean-clause-picture g c =
    copied_is c.args.document.now c.args.cache.now c.args.version c.args.tile.0.0 c.args.tile.1 _ c.requires.kept
    (sym c.copy_clean.ensures.found ∙ c.if-copy_clean.true) c.copy_clean.ensures.copied

pub returns-then-copy_clean-clause-cache : goal.returns-then-copy_clean-clause-cache
returns-then-copy_clean-clause-cache g c =
    shows-clean c.args.document.now c.args.cache.now c.args.version c.args.tile.0.0 c.args.tile.1 c.requires.kept
    (sym c.copy_clean.ensures.found ∙ c.if-copy_clean.true)

pub returns-clause-cache : goal.returns-clause-cache
returns-clause-cache g c =
    shows-done c.args.document.now c.args.cache.now c.install.new.self c.args.version c.args.tile.0.0 c.args.tile.1
    (record { stack = c.compose-done.result.node.0; at = c.compose-done.result.at }) c.compose-done.result.version
    c.compose-done.result.picture
    c.requires.kept c.requires.stack c.requires.on_grid (sym c.copy_clean.ensures.found ∙ c.if-copy_clean.false)
    (c.compose-done.ensures.done.node_is ∙ c.in_ok-job.ensures.stands.stack_is) (c.compose-done.ensures.done.at_is
    ∙ c.in_ok-job.ensures.stands.at_is)
    (c.compose-done.ensures.done.version_is ∙ c.in_ok-job.ensures.stands.version_is) (c.compose-done.ensures.done.picture_is
    ∙ c.in_ok-job.ensures.stands.picture_is)
    c.install.ensures.slots

pub returns-clause-steps : goal.returns-clause-steps
returns-clause-steps g c = λ clean.
    absurd (true≢false (sym clean ∙ marked-where c.args.document.now c.args.cache.now c.args.version c.args.tile.0.0 c.args.tile.1
    c.requires.kept (sym c.copy_clean.ensures.found ∙ c.if-copy_clean.false)))

pub returns-clause-cost : goal.returns-clause-cost
returns-clause-cost g c =
    subst (λ n. c.compose-done.new.steps ≤ c.args.steps.now + n) c.in_ok-job.ensures.cost c.compose-done.ensures.cost
