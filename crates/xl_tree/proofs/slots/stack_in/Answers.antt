use Rattle.std.proofs.Common.{refl, sym, ◌∙◌, ap, arith, take}
use Rattle.std.proofs.lemmas.List.{nil_from_length}
use Rattle.xl_tree.specs.Flat.{forest_of}
use Rattle.xl_tree.specs.Refusals.{no_group}
use Rattle.xl_tree.proofs.Search.{found_none, found_leaf, found_group}
use Rattle.xl_tree.proofs.GroupsBefore.{above_found}
use Rattle.xl_tree.proofs.Stands.{group_stands, none_stands}
use Rattle.xl_tree.proofs.slots.stack_in.Goals as goal

pub returns-then-not-entry-clause-refused : goal.returns-then-not-entry-clause-refused
returns-then-not-entry-clause-refused g c =
    let searched = sym c.from_id.ensures ∙ c.in-Some.ensures.cases.0 in
    let found = found_leaf c.args.stack.0 _
    (forest_of c.args.entries.now) c.in-Some.entry.now c.in-Some.rest.now c.requires.siblings.flat_is searched
    c.if-not-entry.true in
    sym (none_stands c.args.stack.0 (forest_of c.args.entries.now) c.if-stack-eq0.false ∙ ap (no_group c.args.stack.0) found)

pub overflow_add-level : goal.overflow_add-level
overflow_add-level g c =
    let searched = sym c.from_id.ensures ∙ c.in-Some.ensures.cases.0 in
    omega (
      arith,
      (above_found c.args.stack.0 _
          (forest_of c.args.entries.now) c.in-Some.entry.now c.in-Some.rest.now c.requires.siblings refl searched).low,
    )

pub overflow_sub-at : goal.overflow_sub-at
overflow_sub-at g c =
    let searched = sym c.from_id.ensures ∙ c.in-Some.ensures.cases.0 in
    omega (
      arith,
      (above_found c.args.stack.0 _
          (forest_of c.args.entries.now) c.in-Some.entry.now c.in-Some.rest.now c.requires.siblings refl searched).within,
    )

pub of-requires-in-Some : goal.of-requires-in-Some
of-requires-in-Some g c =
    let searched = sym c.from_id.ensures ∙ c.in-Some.ensures.cases.0 in
    (found_group c.args.stack.0 _ (forest_of c.args.entries.now) c.in-Some.entry.now c.in-Some.rest.now _ c.requires.siblings refl
    searched c.if-not-entry.false (ap (λ k. take k c.in-Some.rest.now) c.deeper-inside.ensures)).children

pub returns-in-None-clause-refused : goal.returns-in-None-clause-refused
returns-in-None-clause-refused g c =
    let searched = sym c.from_id.ensures ∙ nil_from_length _ c.in-None.ensures.cases in
    let found = found_none c.args.stack.0 _ (forest_of c.args.entries.now) c.requires.siblings.flat_is searched in
    sym (none_stands c.args.stack.0 (forest_of c.args.entries.now) c.if-stack-eq0.false ∙ ap (no_group c.args.stack.0) found)

pub returns-else-not-entry-clause-refused : goal.returns-else-not-entry-clause-refused
returns-else-not-entry-clause-refused g c =
    let searched = sym c.from_id.ensures ∙ c.in-Some.ensures.cases.0 in
    let found = (found_group c.args.stack.0 _
    (forest_of c.args.entries.now) c.in-Some.entry.now c.in-Some.rest.now _ c.requires.siblings refl searched
    c.if-not-entry.false refl).found in
    sym (none_stands c.args.stack.0 (forest_of c.args.entries.now) c.if-stack-eq0.false ∙ ap (no_group c.args.stack.0) found)

pub returns-else-not-entry-clause-stack : goal.returns-else-not-entry-clause-stack
returns-else-not-entry-clause-stack g c =
    let searched = sym c.from_id.ensures ∙ c.in-Some.ensures.cases.0 in
    group_stands c.args.stack.0 c.args.entries.now
    (forest_of c.args.entries.now) _ c.in-Some.entry.now c.in-Some.rest.now _ c.if-stack-eq0.false c.requires.siblings refl
    c.requires.distinct searched c.if-not-entry.false
    (ap (λ k. take k c.in-Some.rest.now) c.deeper-inside.ensures) c.of-in-Some.ensures
