use Rattle.std.proofs.Common.{◌++◌, ◌-◌, take, ◌∙◌, ap, arith, map, length}
use Rattle.std.proofs.lemmas.List.{map_push, length_push}
use Rattle.xl_tree.specs.declared.naming.NodeId.{NodeId}
use Rattle.xl_tree.specs.Above.{groups_before}
use Rattle.xl_tree.proofs.GroupsBefore.{told_next, told_skip, told_all}
use Rattle.xl_tree.proofs.above.groups_before.Goals as goal

pub loop-at-preserved-then-entry-lowest : goal.loop-at-preserved-then-entry-lowest
loop-at-preserved-then-entry-lowest g c =
    let told = told_next (map (λ (i : NodeId). i.0) c.loop-at.above) _ c.args.before.now c.loop-at.at c.loop-at.lowest
    c.index-before-at.result c.loop-at-test.true c.loop-at.invariant.2 c.index-before-at.is c.if-entry-lowest.true
    c.loop-at.invariant.0 in (
      ap (λ x. x ++ groups_before (take (c.loop-at.at - 1) c.args.before.now) c.index-before-at.result.level)
          (ap (map (λ (i : NodeId). i.0)) c.push.ensures ∙ map_push (λ (i : NodeId). i.0) c.loop-at.above _) ∙ told,
      omega (arith, ap length c.push.ensures, length_push c.loop-at.above (record { 0 = c.index-before-at.result.id })),
      omega arith,
    )

pub loop-at-preserved : goal.loop-at-preserved
loop-at-preserved g c = (
  told_skip (map (λ (i : NodeId). i.0) c.loop-at.above) _ c.args.before.now c.loop-at.at c.loop-at.lowest c.index-before-at.result
      c.loop-at-test.true c.loop-at.invariant.2 c.index-before-at.is c.if-entry-lowest.false c.loop-at.invariant.0,
  c.loop-at.invariant.1,
  omega arith,
)

pub returns-else-lowest-gt0 : goal.returns-else-lowest-gt0
returns-else-lowest-gt0 g c =
    told_all (map (λ (i : NodeId). i.0) c.loop-at.above) _ (take c.loop-at.at c.args.before.now) c.loop-at.lowest
    (omega arith) c.loop-at.invariant.0
