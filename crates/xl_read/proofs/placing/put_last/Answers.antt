use Rattle.std.proofs.Common.{◌+◌, arith}
use Rattle.spec_document.specs.Forest.{size}
use Rattle.xl_doc.specs.Nodes.{nodes_of, is_group_body}
use Rattle.xl_tree.specs.Places.{alone}
use Rattle.xl_read.proofs.Placed.{size-nodes_of, marks-put_last}
use Rattle.xl_read.proofs.Placings.{leads_back, placed_same, marks_alone, next_is_new, counted_more}
use Rattle.xl_read.proofs.placing.put_last.Goals as goal

pub put_last-requires-clause-leads : goal.put_last-requires-clause-leads
put_last-requires-clause-leads c = leads_back c.args.path.now c.args.tree.now c.requires.leads

pub put_last-requires-clause-few : goal.put_last-requires-clause-few
put_last-requires-clause-few c = omega (arith, size-nodes_of c.args.tree.now, c.requires.few)

pub returns-clause-put : goal.returns-clause-put
returns-clause-put c =
    placed_same c.args.path.now (is_group_body c.args.node.body) (c.len.result + 1)
    (1 + size (nodes_of c.args.tree.now)) c.args.node c.args.tree.now c.put_last.new.self
    (omega (arith, size-nodes_of c.args.tree.now, c.len.ensures.len)) c.put_last.ensures

pub put_last-requires-clause-new : goal.put_last-requires-clause-new
put_last-requires-clause-new c =
    next_is_new (c.len.result + 1) c.args.tree.now (omega (arith, c.len.ensures.len)) c.requires.parts.counted

pub returns-clause-parts : goal.returns-clause-parts
returns-clause-parts c = record {
  marks = marks-put_last c.args.path.now
      (alone (is_group_body c.args.node.body) (c.len.result + 1) c.args.node) c.args.tree.now c.put_last.new.self
      c.put_last.ensures (marks_alone (c.len.result + 1) c.args.node) c.requires.parts.marks;
  counted = counted_more c.args.path.now (is_group_body c.args.node.body)
      (c.len.result + 1) c.args.node c.args.tree.now c.put_last.new.self
      c.put_last.ensures (omega (arith, c.len.ensures.len)) c.requires.parts.counted;
}
