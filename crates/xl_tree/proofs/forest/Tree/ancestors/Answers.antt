use Rattle.std.proofs.Common.{◌-◌, take, length, sym, ◌∙◌, ap, arith, map}
use Rattle.std.proofs.lemmas.List.{nil_from_length}
use Rattle.xl_tree.specs.declared.naming.NodeId.{NodeId}
use Rattle.xl_tree.specs.Flat.{flat, from_id}
use Rattle.xl_tree.specs.Above.{groups_before}
use Rattle.xl_tree.proofs.GroupsBefore.{above_found, above_nothing}
use Rattle.xl_tree.proofs.forest.Tree.ancestors.Goals as goal

pub slice_bounds-groups_before-count : goal.slice_bounds-groups_before-count
slice_bounds-groups_before-count g c =
    let searched = ap (from_id c.args.id.0) (c.self.invariant.siblings.flat_is ∙ ap (flat 0) c.self.view_is)
    ∙ (sym c.from_node-found.ensures.from ∙ c.in-Some.ensures.cases.0) in
    let a = above_found c.args.id.0 _ c.args.self.now c.in-Some.entry.now _ c.self.invariant.siblings c.self.view_is searched in
    omega (arith, a.within, ap length c.in-Some.ensures.cases.0, ap length c.as_slice-entries.ensures.value)

pub groups_before-requires : goal.groups_before-requires
groups_before-requires g c =
    let searched = ap (from_id c.args.id.0) (c.self.invariant.siblings.flat_is ∙ ap (flat 0) c.self.view_is)
    ∙ (sym c.from_node-found.ensures.from ∙ c.in-Some.ensures.cases.0) in
    (above_found c.args.id.0 _ c.args.self.now c.in-Some.entry.now _ c.self.invariant.siblings c.self.view_is searched).low

pub returns-in-None : goal.returns-in-None
returns-in-None g c =
    let searched = ap (from_id c.args.id.0) (c.self.invariant.siblings.flat_is ∙ ap (flat 0) c.self.view_is)
    ∙ (sym c.from_node-found.ensures.from ∙ nil_from_length _ c.in-None.ensures.cases) in
    ap (map (λ (i : NodeId). i.0)) c.none.ensures
    ∙ above_nothing c.args.id.0 _ c.args.self.now c.self.invariant.siblings c.self.view_is searched

pub returns-in-Some : goal.returns-in-Some
returns-in-Some g c =
    let searched = ap (from_id c.args.id.0) (c.self.invariant.siblings.flat_is ∙ ap (flat 0) c.self.view_is)
    ∙ (sym c.from_node-found.ensures.from ∙ c.in-Some.ensures.cases.0) in
    let a = above_found c.args.id.0 _ c.args.self.now c.in-Some.entry.now _ c.self.invariant.siblings c.self.view_is searched in
    c.groups_before.ensures
    ∙ ((λ i. groups_before (take (length (c.as_slice-entries.ensures.value i) - length (c.in-Some.ensures.cases.0 i))
    (c.as_slice-entries.ensures.value i)) c.in-Some.entry.now.level) ∙ a.above)
