use Rattle.std.proofs.Common.{subst, string_bytes}
use Rattle.std.specs.Prelude.{IfOk}
use Rattle.spec_document.specs.Document.{Document}
use Rattle.spec_script.specs.Script.{list_at}
use Rattle.spec_view.specs.Text.{Views}
use Rattle.xl_script.specs.Lines.{lists_of}
use Rattle.xl_filters.specs.Chests.{states_of}
use Rattle.xl_commands.proofs.viewing.view_document.Goals as goal

pub returns-clause-views : goal.returns-clause-views
returns-clause-views g c =
    subst (λ (d : Document). IfOk c.view_script-text.result (λ text. Views (string_bytes text) d (list_at (lists_of c.args.script) 0)
    (list_at (states_of (λ b. (goal.PointFilter-dyn g (b.vtable, b.value)).state b.value) c.args.chest.items) 0) c.args.view.now.cols
    c.args.view.now.rows)) c.in-Ok.ensures.base c.view_script-text.ensures.views
