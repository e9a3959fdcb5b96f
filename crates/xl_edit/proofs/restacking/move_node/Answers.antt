-- The tree moves the node, since the document's rules allow it.
use Rattle.std.proofs.Common.{◌≡◌, cond, sym, ◌∙◌, ap, subst, arith}
use Rattle.std.specs.Prelude.{Ok, Err, is_ok}
use Rattle.spec_document.specs.Forest.{Forest}
use Rattle.spec_document.specs.Changes.{branch_of, put_into, without}
use Rattle.xl_tree.specs.Refusals.{answer_of}
use Rattle.xl_doc.specs.declared.node.Node.{Node}
use Rattle.xl_doc.specs.Nodes.{nodes_of, MarksAgree}
use Rattle.xl_edit.proofs.NodesRestacked.{restack_refusal-nodes_of, nodes-restacked, marks-restacked, levels-restacked}
use Rattle.xl_edit.proofs.restacking.move_node.Goals as goal

pub restack-requires : goal.restack-requires
restack-requires c = record {
  low =
      λ free. omega (arith, levels-restacked c.args.id.0 c.args.parent.0 c.args.place c.args.tree.now, c.requires.low);
}

pub unreachable-requires : goal.unreachable-requires
unreachable-requires c =
    let free = sym (restack_refusal-nodes_of c.args.id.0 c.args.parent.0 c.args.place c.args.tree.now c.requires.marks)
    ∙ c.requires.free in
    let e : Ok tt ≡ Err c.in_default.field-0 = sym (c.restack.ensures.answer ∙ ap answer_of free) ∙ c.in_default.is in
    cc

pub returns-clause-done : goal.returns-clause-done
returns-clause-done c =
    let t = c.args.tree.now in
    let new : Forest Node Node = put_into c.args.parent.0 c.args.place (branch_of c.args.id.0 t) (without c.args.id.0 t) in
    let is : c.restack.new.self ≡ new = c.restack.ensures.tree ∙ ap (λ r. cond (is_ok r) new t) c.in-Ok.is in
    ap nodes_of is ∙ nodes-restacked c.args.id.0 c.args.parent.0 c.args.place t

pub returns-clause-marks : goal.returns-clause-marks
returns-clause-marks c =
    let t = c.args.tree.now in
    let new : Forest Node Node = put_into c.args.parent.0 c.args.place (branch_of c.args.id.0 t) (without c.args.id.0 t) in
    let is : c.restack.new.self ≡ new = c.restack.ensures.tree ∙ ap (λ r. cond (is_ok r) new t) c.in-Ok.is in
    subst MarksAgree (sym is) (marks-restacked c.args.id.0 c.args.parent.0 c.args.place t c.requires.marks)
