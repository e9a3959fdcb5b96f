use Rattle.std.proofs.Common.{◌+◌, ◌<◌, length, map, take, refl, ap, rules, arith}
use Rattle.spec_document.specs.Forest.{none, size}
use Rattle.spec_generated.specs.Generated.{leaves_from}
use Rattle.xl_report.specs.MadeNodes.{group_node, layer_node}
use Rattle.xl_report.proofs.Grown.{first_nowhere, next_nowhere, put_in_last, size-grown}
use Rattle.xl_report.proofs.MadeTrees.{layer_put, many}
use Rattle.xl_report.proofs.made_nodes.put_group.Goals as goal

pub put_last-requires-clause-new : goal.put_last-requires-clause-new
put_last-requires-clause-new c =
    record { positive = c.requires.some; nowhere = first_nowhere c.args.tree.now c.args.first c.requires.fresh }

pub put_last-requires-in-loop-look-clause-leads : goal.put_last-requires-in-loop-look-clause-leads
put_last-requires-in-loop-look-clause-leads c =
    let so_far = map layer_node (take c.loop-look.look-index c.args.looks.now) in
    let there = put_in_last c.args.place c.args.first group_node c.args.tree.now
    (leaves_from (1 + c.args.first) so_far) none c.requires.place in
    rw c.loop-look.invariant.tree (rw there refl)

pub put_last-requires-in-loop-look-clause-new : goal.put_last-requires-in-loop-look-clause-new
put_last-requires-in-loop-look-clause-new c =
    let i = c.loop-look.look-index in
    let within : i < length c.args.looks.now = search rules in
    let so_far = map layer_node (take i c.args.looks.now) in
    record {
      positive = omega arith;
      nowhere = rw c.loop-look.invariant.tree
          (next_nowhere c.args.tree.now c.args.first (c.loop-look.id + 1) group_node so_far c.requires.fresh
          (omega (arith, c.loop-look.invariant.id, many c.args.looks.now i (omega (arith, within)))));
    }

pub put_last-requires-in-loop-look-clause-few : goal.put_last-requires-in-loop-look-clause-few
put_last-requires-in-loop-look-clause-few c =
    let i = c.loop-look.look-index in
    let within : i < length c.args.looks.now = search rules in
    let so_far = map layer_node (take i c.args.looks.now) in
    omega (
      arith,
      within,
      ap size c.loop-look.invariant.tree,
      size-grown c.args.tree.now c.args.first group_node so_far,
      many c.args.looks.now i (omega (arith, within)),
      c.requires.few,
    )

pub loop-look-preserved : goal.loop-look-preserved
loop-look-preserved c =
    let i = c.loop-look.look-index in
    let within : i < length c.args.looks.now = search rules in
    record {
      id = omega (arith, c.loop-look.invariant.id);
      tree = layer_put c.args.place c.args.first
          (c.loop-look.id + 1) i c.args.tree.now c.loop-look.tree c.put_last-in-loop-look.new.self c.args.looks.now
          c.look-item.result c.in_ok-node.node
          c.requires.place (omega (arith, c.loop-look.invariant.id)) within c.look-item.is c.in_ok-node.ensures
          c.loop-look.invariant.tree c.put_last-in-loop-look.ensures;
    }
