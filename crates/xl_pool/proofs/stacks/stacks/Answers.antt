use Rattle.std.proofs.Common.{◌≡◌, [], ◌∷◌, ◌++◌, sym, ◌∙◌, ap, subst}
use Rattle.spec_document.specs.Limits.{IsDocument}
use Rattle.spec_world.specs.World.{group_ids, stack_ids}
use Rattle.xl_regions.specs.Pairs.{numbers}
use Rattle.xl_doc.specs.Nodes.{nodes_of}
use Rattle.xl_pool.proofs.Listed.{few-stacks}
use Rattle.xl_pool.proofs.Standing.{stack_ids-all}
use Rattle.xl_pool.proofs.stacks.stacks.Goals as goal

pub returns : goal.returns
returns c =
    let limits : IsDocument c.args.doc.now = subst IsDocument c.doc.view_is c.doc.invariant.limits in
    let is : numbers c.add_groups.new.list.items ≡ stack_ids c.args.doc.now =
    c.in_ok-add_groups.ensures
    ∙ (ap (λ xs. numbers xs ++ group_ids (nodes_of c.top.result)) (c.in_ok-push.ensures.items
    ∙ ap (λ xs. xs ++ _ ∷ []) c.new-list.ensures.items)
    ∙ (ap (λ f. 0 ∷ group_ids (nodes_of f)) c.top.ensures.value
    ∙ (ap (λ d. 0 ∷ group_ids d.nodes) c.doc.view_is ∙ sym (stack_ids-all c.args.doc.now limits)))) in
    record { value = is; few = few-stacks c.args.doc.now c.add_groups.new.list.items limits is }
