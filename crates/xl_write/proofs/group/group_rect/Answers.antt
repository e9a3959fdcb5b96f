use Rattle.std.proofs.Common.{◌≡◌, ◌≤◌, false, sym, ap, ◌∙◌, subst, arith}
use Rattle.std.proofs.lemmas.Int.{ints}
use Rattle.spec_document.specs.Rect.{is_empty}
use Rattle.spec_document.specs.Forest.{find}
use Rattle.spec_document.specs.Picture.{extent, rect_found}
use Rattle.xl_write.proofs.Inside.{LiesInside, cut_inside}
use Rattle.xl_write.proofs.group.group_rect.Goals as goal
use Rattle.spec_document.specs.declared.TheConstants.{MAX_SIDE}

lies : (c : goal.Else-is_empty) → LiesInside c.args.doc.now.width c.args.doc.now.height c.group_extent-extent.result
lies c =
    let d = c.args.doc.now in
    let wide : d.width ≤ MAX_SIDE = rw (← c.doc.view_is) c.doc.invariant.limits.width.1 in
    let high : d.height ≤ MAX_SIDE = rw (← c.doc.view_is) c.doc.invariant.limits.height.1 in
    let some : is_empty (extent d c.args.id.0) ≡ false = ap is_empty (sym c.group_extent-extent.ensures)
    ∙ (sym c.is_empty.ensures ∙ c.if-is_empty.false) in
    subst (LiesInside d.width d.height) (sym c.group_extent-extent.ensures)
    (cut_inside (rect_found (find c.args.id.0 d.nodes)) d.width d.height wide high some)

pub returns-then-is_empty-clause-inside : goal.returns-then-is_empty-clause-inside
returns-then-is_empty-clause-inside c =
    let wide : 1 ≤ c.args.doc.now.width = rw (← c.doc.view_is) c.doc.invariant.limits.width.0 in
    let high : 1 ≤ c.args.doc.now.height = rw (← c.doc.view_is) c.doc.invariant.limits.height.0 in
    record { left = omega (arith, ints); top = omega (arith, ints); right = omega (arith, wide); bottom = omega (arith, high) }

pub returns-else-is_empty-clause-width : goal.returns-else-is_empty-clause-width
returns-else-is_empty-clause-width c = (lies c).width

pub returns-else-is_empty-clause-height : goal.returns-else-is_empty-clause-height
returns-else-is_empty-clause-height c = (lies c).height

pub returns-else-is_empty-clause-inside : goal.returns-else-is_empty-clause-inside
returns-else-is_empty-clause-inside c = (lies c).inside
