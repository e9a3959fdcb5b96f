use Rattle.std.proofs.Common.{ap, ◌∙◌, subst}
use Rattle.spec_document.specs.Document.{Document}
use Rattle.spec_document.specs.Limits.{IsDocument}
use Rattle.spec_generated.specs.Generated.{document, script}
use Rattle.xl_script.specs.Lines.{lists_of}
use Rattle.xl_commands.proofs.MadeRuns.{no_states, nothing_summed, same_sum, seed_is_made, summed_on}
use Rattle.xl_program.proofs.making.run_made.Goals as goal

pub returns-in-Err : goal.returns-in-Err
returns-in-Err g c = λ seed same_document same_lists.
    let see = g.D.Shelf.shelf_state in
    nothing_summed (see c.args.shelf) _ (document seed) (script seed) record {} (ap see c.in-Err.ensures.back)
    (subst (λ (d : Document). IsDocument d) same_document c.requires.limits)

pub returns : goal.returns
returns g c = λ seed same_document same_lists.
    let see = g.D.Shelf.shelf_state in
    let core = c.in-Ok.core in
    let played = c.play_beside-core.ensures in
    let new = c.play_beside-core.result.core in
    let none = no_states _ c.new.result.items c.new.ensures.items in
    same_sum (see c.args.shelf) (see core.opening) (see c.into_shelf.result) (document seed) core.history.base (script seed)
    (lists_of c.args.made.script) c.sum_up-replies.result
    (ap see c.in-Ok.ensures.opening) (c.in-Ok.ensures.base ∙ same_document) same_lists
    (λ made.
    summed_on see core new c.into_shelf.result (lists_of c.args.made.script) _ c.play_beside-core.result.text
    c.sum_up-replies.result played.base played.opening played.legal c.know_versions.ensures c.into_shelf.ensures.right
    played.front made none played.text c.sum_up-replies.ensures.played c.sum_up-replies.ensures.text c.sum_up-replies.ensures.failed)
    (seed_is_made seed)
