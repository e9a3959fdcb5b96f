-- One more edit is applied.
use Rattle.std.proofs.Common.{ℕ, List, ◌+◌, ◌<◌, length, rules, sym, subst}
use Rattle.spec_damage.specs.Damage.{Pair}
use Rattle.xl_edit.specs.Applied.{at}
use Rattle.xl_standing.proofs.Groups.{IsUnderWay, goes_on}
use Rattle.xl_standing.proofs.group.apply_group.Goals as goal

pub loop-index-preserved : goal.loop-index-preserved
loop-index-preserved c =
    let inside : c.loop-index.index < length c.args.edits.now = search rules in
    let old = at c.args.document.now c.args.next_id.now in
    let new = at c.apply_next.new.document c.apply_next.new.next_id in
    let P : ℕ → List Pair → Type 0 =
    λ more damage. IsUnderWay old new c.args.edits.now c.args.tables.now (c.loop-index.index + 1)
    (c.loop-index.taken + more) damage in
    subst (λ more. P more c.apply_next.new.damage) (sym c.filter_count-taken.ensures)
    (subst (P _) (sym c.in-Ok.ensures.damage)
    (goes_on old (at c.loop-index.document c.loop-index.next_id) new c.args.edits.now c.args.tables.now c.loop-index.index
    c.loop-index.taken c.loop-index.damage
    c.index-edits-index.result c.table_for-table.result.now c.loop-index.invariant inside c.index-edits-index.is
    c.table_for-table.ensures c.know_table.ensures c.in-Ok.ensures.applied))
