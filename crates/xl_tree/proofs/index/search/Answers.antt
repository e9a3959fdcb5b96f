use Rattle.std.proofs.Common.{rules}
use Rattle.std.proofs.lemmas.List.Sorted.{answers_always}
use Rattle.xl_tree.proofs.Ascending.{gap_at_end, found_place, found_gap}
use Rattle.xl_tree.proofs.index.search.Goals as goal

pub returns-then-last-id-clause-gap : goal.returns-then-last-id-clause-gap
returns-then-last-id-clause-gap c =
    gap_at_end c.args.id c.args.places.now c.in-Some.last.now c.requires c.in-Some.ensures.item.1 c.if-last-id.true

pub returns-clause-found : goal.returns-clause-found
returns-clause-found c =
    let searched = c.binary_search_by_key.ensures in
    found_place c.args.id c.args.places.now _ c.requires searched.bound
    (searched.position (λ p. p.id) (answers_always _ _ _ (λ f a r g called. search rules)))

pub returns-clause-gap : goal.returns-clause-gap
returns-clause-gap c =
    let searched = c.binary_search_by_key.ensures in
    found_gap c.args.id c.args.places.now _ c.requires searched.bound
    (searched.position (λ p. p.id) (answers_always _ _ _ (λ f a r g called. search rules)))
