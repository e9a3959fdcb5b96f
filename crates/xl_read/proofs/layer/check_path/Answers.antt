use Rattle.std.proofs.Common.{rules, ◌∙◌, ap, arith}
use Rattle.spec_file.specs.Placing.{path_to, place_of}
use Rattle.xl_read.proofs.Paths.{leads, leads_not, long_not}
use Rattle.xl_read.proofs.layer.check_path.Goals as goal
use Rattle.spec_document.specs.declared.numbers.TheConstants.{ITEM_PATH}

pub returns-then-path-clause-rule : goal.returns-then-path-clause-rule
returns-then-path-clause-rule c =
    long_not c.args.draft.now c.args.head.now c.parent-path.result.now c.path_place.result c.refuse.result
    (c.parent-path.ensures ∙ ap (λ h. path_to h.props.list) c.head.view_is)
    (c.path_place.ensures ∙ ap (λ h. place_of ITEM_PATH h.props.list) c.head.view_is)
    c.refuse.ensures (omega arith)

pub returns-then-not-leads-clause-rule : goal.returns-then-not-leads-clause-rule
returns-then-not-leads-clause-rule c =
    leads_not c.args.draft.now c.args.head.now c.parent-path.result.now c.path_place-then-not-leads.result
    c.refuse-then-not-leads.result
    (c.parent-path.ensures ∙ ap (λ h. path_to h.props.list) c.head.view_is)
    (c.path_place-then-not-leads.ensures ∙ ap (λ h. place_of ITEM_PATH h.props.list) c.head.view_is)
    c.refuse-then-not-leads.ensures (omega arith) (search rules)

pub returns-clause-rule : goal.returns-clause-rule
returns-clause-rule c =
    leads c.args.draft.now c.args.head.now c.parent-path.result.now
    (c.parent-path.ensures ∙ ap (λ h. path_to h.props.list) c.head.view_is)
    (omega arith) (search rules)
