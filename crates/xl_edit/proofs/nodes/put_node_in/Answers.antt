-- The tree takes the node, since the document's rules allow it.
use Rattle.std.proofs.Common.{◌≡◌, ℕ, ◌<◌, cond, sym, ◌∙◌, ap, subst}
use Rattle.std.specs.Prelude.{Ok, Err, is_ok}
use Rattle.spec_document.specs.Forest.{Forest}
use Rattle.spec_document.specs.Changes.{put_into}
use Rattle.spec_document.specs.declared.TheConstants.{MAX_NODES}
use Rattle.xl_tree.specs.Places.{alone}
use Rattle.xl_tree.specs.Refusals.{answer_with}
use Rattle.xl_doc.specs.declared.node.Node.{Node}
use Rattle.xl_doc.specs.Nodes.{nodes_of, is_group_body, MarksAgree}
use Rattle.xl_checks.proofs.NodesMoved.{size-nodes_of, nodes-put_into, marks-put_into}
use Rattle.xl_edit.proofs.NewNodes.{new_in_tree}
use Rattle.xl_edit.proofs.Stacks.{put_refusal-nodes_of, low_with_one, marks_one}
use Rattle.xl_edit.proofs.nodes.put_node_in.Goals as goal

pub insert-requires-clause-new : goal.insert-requires-clause-new
insert-requires-clause-new c = new_in_tree c.args.id.0 c.args.tree.now c.requires.marks c.requires.new

pub insert-requires-clause-few : goal.insert-requires-clause-few
insert-requires-clause-few c = let P : ℕ → Type 0 = λ n. n < MAX_NODES in subst P (size-nodes_of c.args.tree.now) c.requires.few

pub insert-requires-clause-low : goal.insert-requires-clause-low
insert-requires-clause-low c = λ free.
    low_with_one c.args.parent.0 c.args.place c.args.id.0 c.args.node c.args.tree.now c.requires.ids c.requires.place
    c.requires.deep c.know_levels.ensures

pub unreachable-requires : goal.unreachable-requires
unreachable-requires c =
    let free = sym (put_refusal-nodes_of c.args.parent.0 c.args.place c.args.tree.now c.requires.marks) ∙ c.requires.place in
    let e : Ok tt ≡ Err c.in_default.field-0 = sym (c.insert.ensures.answer ∙ ap (λ o. answer_with o c.args.node) free)
    ∙ c.in_default.is in
    cc

pub returns-clause-done : goal.returns-clause-done
returns-clause-done c =
    let t = c.args.tree.now in
    let b : Forest Node Node = alone (is_group_body c.args.node.body) c.args.id.0 c.args.node in
    let new : Forest Node Node = put_into c.args.parent.0 c.args.place b t in
    let is : c.insert.new.self ≡ new = c.insert.ensures.tree ∙ ap (λ r. cond (is_ok r) new t) c.in-Ok.is in
    ap nodes_of is ∙ nodes-put_into c.args.parent.0 c.args.place b t

pub returns-clause-marks : goal.returns-clause-marks
returns-clause-marks c =
    let t = c.args.tree.now in
    let b : Forest Node Node = alone (is_group_body c.args.node.body) c.args.id.0 c.args.node in
    let new : Forest Node Node = put_into c.args.parent.0 c.args.place b t in
    let is : c.insert.new.self ≡ new = c.insert.ensures.tree ∙ ap (λ r. cond (is_ok r) new t) c.in-Ok.is in
    subst MarksAgree (sym is) (marks-put_into c.args.parent.0 c.args.place b t (marks_one c.args.id.0 c.args.node) c.requires.marks)
