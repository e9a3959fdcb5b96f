use Rattle.std.proofs.Common.{refl, sym, ◌∙◌, ap, arith, take}
use Rattle.std.proofs.lemmas.List.{nil_from_length}
use Rattle.xl_tree.proofs.Flat.{size-forest_of, forest_of-flat}
use Rattle.xl_tree.proofs.Search.{found_none, found_leaf, found_group, is_found_leaf, is_found_group}
use Rattle.xl_tree.proofs.forest.Tree.find_entry.Goals as goal

pub returns-in_err-first-clause-none : goal.returns-in_err-first-clause-none
returns-in_err-first-clause-none g c =
    let searched = sym c.from_node.ensures.from ∙ nil_from_length _ c.in_err-first.ensures.cases in
    rw c.from_residual.ensures (found_none c.args.id.0 _ c.args.self.now refl searched)

pub returns-then-not-first-clause-some : goal.returns-then-not-first-clause-some
returns-then-not-first-clause-some g c =
    let searched = sym c.from_node.ensures.from ∙ c.in_ok-first.ensures.cases.0 in
    is_found_leaf _ c.in_ok-first.first.now _
    (found_leaf c.args.id.0 _ c.args.self.now c.in_ok-first.first.now c.in_ok-first.rest.now refl searched c.if-not-first.true)
    c.if-not-first.true c.empty.ensures

pub overflow_add-first : goal.overflow_add-first
overflow_add-first g c =
    let searched = sym c.from_node.ensures.from ∙ c.in_ok-first.ensures.cases.0 in
    let found = found_group c.args.id.0 _ c.args.self.now c.in_ok-first.first.now c.in_ok-first.rest.now _
    c.from_node.ensures.siblings (forest_of-flat 0 c.args.self.now) searched c.if-not-first.false
    (ap (λ k. take k c.in_ok-first.rest.now) c.deeper-inside.ensures) in
    omega (arith, found.deep)

pub of-children-requires : goal.of-children-requires
of-children-requires g c =
    let searched = sym c.from_node.ensures.from ∙ c.in_ok-first.ensures.cases.0 in
    (found_group c.args.id.0 _ c.args.self.now c.in_ok-first.first.now c.in_ok-first.rest.now _ c.from_node.ensures.siblings
    (forest_of-flat 0 c.args.self.now) searched c.if-not-first.false
    (ap (λ k. take k c.in_ok-first.rest.now) c.deeper-inside.ensures)).children

pub returns-clause-some : goal.returns-clause-some
returns-clause-some g c =
    let searched = sym c.from_node.ensures.from ∙ c.in_ok-first.ensures.cases.0 in
    let found = (found_group c.args.id.0 _ c.args.self.now c.in_ok-first.first.now c.in_ok-first.rest.now _
    c.from_node.ensures.siblings (forest_of-flat 0 c.args.self.now) searched c.if-not-first.false
    (ap (λ k. take k c.in_ok-first.rest.now) c.deeper-inside.ensures)).found in
    rw c.of-children.ensures (is_found_group _ c.in_ok-first.first.now _ found c.if-not-first.false)

pub returns-clause-few : goal.returns-clause-few
returns-clause-few g c =
    let searched = sym c.from_node.ensures.from ∙ c.in_ok-first.ensures.cases.0 in
    let children = (found_group c.args.id.0 _ c.args.self.now c.in_ok-first.first.now c.in_ok-first.rest.now _
    c.from_node.ensures.siblings (forest_of-flat 0 c.args.self.now) searched c.if-not-first.false
    (ap (λ k. take k c.in_ok-first.rest.now) c.deeper-inside.ensures)).children in
    rw c.of-children.ensures (omega (arith, children.few, size-forest_of _ _ children.flat_is))

pub returns-clause-low : goal.returns-clause-low
returns-clause-low g c =
    let searched = sym c.from_node.ensures.from ∙ c.in_ok-first.ensures.cases.0 in
    let children = (found_group c.args.id.0 _ c.args.self.now c.in_ok-first.first.now c.in_ok-first.rest.now _
    c.from_node.ensures.siblings (forest_of-flat 0 c.args.self.now) searched c.if-not-first.false
    (ap (λ k. take k c.in_ok-first.rest.now) c.deeper-inside.ensures)).children in
    rw c.of-children.ensures (omega (arith, children.low))
