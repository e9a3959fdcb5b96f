-- A job of the last version is that version's picture.
use Rattle.std.proofs.Common.{◌≡◌, true, rules}
use Rattle.spec_document.specs.Grid.{is_on_grid}
use Rattle.spec_history.specs.Machine.{has_stack}
use Rattle.xl_core.specs.History.{document}
use Rattle.core_rows.specs.Asked.{IsOfLast}
use Rattle.core_rows.proofs.Outs.{picture_is_of}
use Rattle.core_rows.proofs.bench.next.Goals as goal

pub returns-clause-right : goal.returns-clause-right
returns-clause-right g c =
    let h = c.compose_next.new.core.history in
    let last : IsOfLast h c.in-Some.done = search rules in
    let has : has_stack (document h) c.in-Some.done.node.0 ≡ true = search rules in
    let on : is_on_grid (document h).width (document h).height c.in-Some.done.at ≡ true = search rules in
    picture_is_of h c.in-Some.done last has on
