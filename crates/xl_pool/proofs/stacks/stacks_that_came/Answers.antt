use Rattle.std.proofs.Common.{◌≡◌, [], ◌∷◌, ◌++◌, sym, ◌∙◌, ap, subst, not, filter}
use Rattle.spec_document.specs.Limits.{IsDocument}
use Rattle.spec_history.specs.Machine.{has_stack}
use Rattle.spec_world.specs.World.{group_ids}
use Rattle.xl_regions.specs.Pairs.{numbers}
use Rattle.xl_doc.specs.Nodes.{nodes_of}
use Rattle.spec_standing.specs.Change.{came_to}
use Rattle.xl_pool.proofs.Came.{few-new}
use Rattle.xl_pool.proofs.Standing.{stack_ids-all}
use Rattle.xl_pool.proofs.stacks.stacks_that_came.Goals as goal

pub returns : goal.returns
returns c =
    let limits : IsDocument c.args.new.now = subst IsDocument c.new.view_is c.new.invariant.limits in
    let is : numbers c.add_new_groups.new.list.items ≡ came_to c.args.old.now c.args.new.now =
    c.in_ok-add_new_groups.ensures
    ∙ (ap (λ xs. numbers xs ++ filter (λ k. not (has_stack c.args.old.now k)) (group_ids (nodes_of c.top.result)))
    c.new-came.ensures.items
    ∙ (ap (λ f. filter (λ k. not (has_stack c.args.old.now k)) (group_ids (nodes_of f))) c.top.ensures.value
    ∙ (ap (λ d. filter (λ k. not (has_stack c.args.old.now k)) (group_ids d.nodes)) c.new.view_is
    ∙ sym (ap (filter (λ k. not (has_stack c.args.old.now k))) (stack_ids-all c.args.new.now limits))))) in
    record { value = is; few = few-new c.args.old.now c.args.new.now c.add_new_groups.new.list.items limits is }
