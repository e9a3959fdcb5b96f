use Rattle.std.proofs.Common.{◌≡◌, List, subst, length, drop, sym, ◌∙◌, ap, arith, Some, None}
use Rattle.std.proofs.lemmas.List.{take_rest}
use Rattle.xl_tree.specs.Flat.{flat, from_id}
use Rattle.xl_tree.specs.Index.{place_in}
use Rattle.xl_tree.specs.Kept.{AreSiblings}
use Rattle.xl_tree.proofs.Indexed.{from_place_is, from_nowhere, place_within}
use Rattle.xl_tree.proofs.forest.Tree.from_node.Goals as goal

pub offset_bounds-deref-at : goal.offset_bounds-deref-at
offset_bounds-deref-at g c =
    let there : place_in c.args.id.0 c.self.inside.entries.items ≡ Some c.in-Some.at =
    sym (c.in-Some.ensures ∙ c.self.invariant.indexed c.args.id.0) in
    omega (arith, place_within c.args.id.0 _ _ there, ap length c.deref.ensures.value)

pub slice_bounds-result-count : goal.slice_bounds-result-count
slice_bounds-result-count g c =
    let there : place_in c.args.id.0 c.self.inside.entries.items ≡ Some c.in-Some.at =
    sym (c.in-Some.ensures ∙ c.self.invariant.indexed c.args.id.0) in
    omega (arith, place_within c.args.id.0 _ _ there, ap length c.deref.ensures.value)

pub slice_bounds-result-start : goal.slice_bounds-result-start
slice_bounds-result-start g c =
    let there : place_in c.args.id.0 c.self.inside.entries.items ≡ Some c.in-Some.at =
    sym (c.in-Some.ensures ∙ c.self.invariant.indexed c.args.id.0) in
    omega (arith, place_within c.args.id.0 _ _ there, ap length c.deref.ensures.value)

pub returns-in-None-clause-from : goal.returns-in-None-clause-from
returns-in-None-clause-from g c =
    let there : place_in c.args.id.0 c.self.inside.entries.items ≡ None =
    sym (c.in-None.ensures ∙ c.self.invariant.indexed c.args.id.0) in
    sym (from_nowhere c.args.id.0 _ there)
    ∙ ap (from_id c.args.id.0) (c.self.invariant.siblings.flat_is ∙ ap (flat 0) c.self.view_is)

pub returns-in-Some-clause-from : goal.returns-in-Some-clause-from
returns-in-Some-clause-from g c =
    let there : place_in c.args.id.0 c.self.inside.entries.items ≡ Some c.in-Some.at =
    sym (c.in-Some.ensures ∙ c.self.invariant.indexed c.args.id.0) in
    take_rest c.deref.result.now c.in-Some.at
    ∙ (ap (drop c.in-Some.at) c.deref.ensures.value
    ∙ (sym (from_place_is c.args.id.0 _ _ there)
    ∙ ap (from_id c.args.id.0) (c.self.invariant.siblings.flat_is ∙ ap (flat 0) c.self.view_is)))

pub returns-in-None-clause-siblings : goal.returns-in-None-clause-siblings
returns-in-None-clause-siblings g c = let P : List _ → Type 0 = λ es. AreSiblings 0 es in
    subst P (c.self.invariant.siblings.flat_is ∙ ap (flat 0) c.self.view_is) c.self.invariant.siblings

pub returns-in-Some-clause-siblings : goal.returns-in-Some-clause-siblings
returns-in-Some-clause-siblings g c = let P : List _ → Type 0 = λ es. AreSiblings 0 es in
    subst P (c.self.invariant.siblings.flat_is ∙ ap (flat 0) c.self.view_is) c.self.invariant.siblings
