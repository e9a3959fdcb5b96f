-- Each of these edits paints.
use Rattle.std.proofs.Common.{rules, ◌≡◌, sym, subst}
use Rattle.spec_edit.specs.Edit as edits
use Rattle.xl_calls.specs.Edits.{edit_of}
use Rattle.xl_standing.specs.Made.{MayPaint}
use Rattle.xl_standing.proofs.Alone.{may_fill, may_write, may_copy, may_fill_mask}
use Rattle.xl_standing.proofs.painting.painted.Goals as goal

pub returns-in_ok-fillable-in-Fill-clause-may : goal.returns-in_ok-fillable-in-Fill-clause-may
returns-in_ok-fillable-in-Fill-clause-may c =
    let d = c.args.document.now in
    let id = c.in-Fill.id.0 in
    let found = c.in_ok-fillable-in-Fill in
    let same : edit_of c.args.edit.now ≡ edits.fill id c.in-Fill.rect c.as_slice.result.now = search rules in
    subst (MayPaint d id) (sym same)
    (may_fill d id c.in-Fill.rect c.as_slice.result.now found.field-0.now found.ensures.found found.ensures.allowed)

pub returns-in_ok-writable-in-Write-clause-may : goal.returns-in_ok-writable-in-Write-clause-may
returns-in_ok-writable-in-Write-clause-may c =
    let d = c.args.document.now in
    let id = c.in-Write.id.0 in
    let bytes = c.as_slice-in-Write.result.now in
    let found = c.in_ok-writable-in-Write in
    let same : edit_of c.args.edit.now ≡ edits.write id c.in-Write.rect bytes = search rules in
    subst (MayPaint d id) (sym same)
    (may_write d id c.in-Write.rect bytes found.field-0.now found.ensures.found found.ensures.allowed)

pub returns-in_ok-copyable-in-CopyRect-clause-may : goal.returns-in_ok-copyable-in-CopyRect-clause-may
returns-in_ok-copyable-in-CopyRect-clause-may c =
    let d = c.args.document.now in
    let e = c.in-CopyRect in
    let id = e.id.0 in
    let found = c.in_ok-copyable-in-CopyRect in
    let same : edit_of c.args.edit.now ≡ edits.copy_rect id c.in-CopyRect.rect c.in-CopyRect.from.0 c.in-CopyRect.u c.in-CopyRect.v =
    search rules in
    subst (MayPaint d id) (sym same)
    (may_copy d id e.rect e.from.0 e.u e.v found.field-0.to.now found.ensures.to found.ensures.allowed)

pub returns-in_ok-mask_fillable-in-FillMask-clause-may : goal.returns-in_ok-mask_fillable-in-FillMask-clause-may
returns-in_ok-mask_fillable-in-FillMask-clause-may c =
    let d = c.args.document.now in
    let id = c.in-FillMask.id.0 in
    let found = c.in_ok-mask_fillable-in-FillMask in
    let same : edit_of c.args.edit.now ≡ edits.fill_mask id c.in-FillMask.rect c.in-FillMask.value = search rules in
    subst (MayPaint d id) (sym same)
    (may_fill_mask d id c.in-FillMask.rect c.in-FillMask.value found.field-0.now found.ensures.found found.ensures.allowed)
