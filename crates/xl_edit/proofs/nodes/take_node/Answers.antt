-- The tree gives up the node, which is there.
use Rattle.std.proofs.Common.{◌≡◌, cond, sym, ◌∙◌, ap, subst}
use Rattle.std.specs.Prelude.{Ok, Err, is_ok}
use Rattle.spec_document.specs.Changes.{without}
use Rattle.xl_tree.specs.Refusals.{answer_of}
use Rattle.xl_doc.specs.Nodes.{nodes_of, MarksAgree}
use Rattle.xl_checks.proofs.NodesMoved.{nodes-without, marks-without}
use Rattle.xl_edit.proofs.Stacks.{found_there}
use Rattle.xl_edit.proofs.nodes.take_node.Goals as goal

pub unreachable-requires : goal.unreachable-requires
unreachable-requires c =
    let e : Ok tt ≡ Err c.in_default.field-0 =
    sym (c.remove.ensures.answer ∙ ap answer_of (found_there c.args.id.0 c.args.tree.now c.requires.marks c.requires.node))
    ∙ c.in_default.is in
    cc

pub returns-clause-ok : goal.returns-clause-ok
returns-clause-ok c =
    let t = c.args.tree.now in
    let is : c.remove.new.self ≡ without c.args.id.0 t = c.remove.ensures.tree
    ∙ ap (λ r. cond (is_ok r) (without c.args.id.0 t) t) c.in-Ok.is in
    ap nodes_of is ∙ nodes-without c.args.id.0 t

pub returns-clause-marks : goal.returns-clause-marks
returns-clause-marks c =
    let t = c.args.tree.now in
    let is : c.remove.new.self ≡ without c.args.id.0 t = c.remove.ensures.tree
    ∙ ap (λ r. cond (is_ok r) (without c.args.id.0 t) t) c.in-Ok.is in
    subst MarksAgree (sym is) (marks-without c.args.id.0 t c.requires.marks)
