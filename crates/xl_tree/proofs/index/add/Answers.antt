use Rattle.std.proofs.Common.{sym, ◌∙◌, ap, subst}
use Rattle.xl_tree.specs.Index.{IsAscending, place_at}
use Rattle.xl_tree.proofs.Ascending.{gap_none, ascending-insert, place_at-insert, place_stays}
use Rattle.xl_tree.proofs.index.add.Goals as goal

pub returns-in_default-clause-told : goal.returns-in_default-clause-told
returns-in_default-clause-told c id =
    place_stays id _ c.args.places.now.items c.args.place
    (sym (ap (λ places. place_at places c.args.place.id) c.as_slice.ensures.value) ∙ c.in_default.ensures.found.place_is c.args.place)

pub returns-clause-ascending : goal.returns-clause-ascending
returns-clause-ascending c =
    let gap = rw c.as_slice.ensures.value at c.in-Err.ensures.gap in
    let items = rw c.unwrap.ensures at c.insert.ensures.items in
    subst IsAscending (sym items) (ascending-insert c.in-Err.gap c.args.places.now.items c.args.place c.requires.ascending gap)

pub returns-clause-told : goal.returns-clause-told
returns-clause-told c id =
    let gap = rw c.as_slice.ensures.value at c.in-Err.ensures.gap in
    let items = rw c.unwrap.ensures at c.insert.ensures.items in
    ap (λ places. place_at places id) items
    ∙ place_at-insert id c.in-Err.gap c.args.places.now.items c.args.place
    (gap_none c.args.place.id c.in-Err.gap c.args.places.now.items gap)
