-- The map has one colour.
use Rattle.std.proofs.Common.{refl, sym, subst, arith}
use Rattle.spec_edit.specs.Edit as edits
use Rattle.core_rows.proofs.changes.one_colour.Goals as goal

pub returns-clause-edit : goal.returns-clause-edit
returns-clause-edit c =
    subst (λ bytes. edits.IsEdit (edits.set_colours bytes)) (sym c.in_ok-bytes.ensures)
    ((omega arith, (omega arith, (omega arith, tt))), (1, omega arith, omega arith, refl))
