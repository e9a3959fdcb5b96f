-- The layer that is written is the one that the edit makes.
use Rattle.std.proofs.Common.{List, ℕ, refl, sym, subst}
use Rattle.spec_edit.specs.Edit as edits
use Rattle.spec_edit.specs.Refusal.{node}
use Rattle.xl_paint.specs.declared.places.LayerPart.TheVariants.{Pixels}
use Rattle.xl_checks.specs.Found.{IsLayer}
use Rattle.xl_paint.specs.Paint.{Paints, copies}
use Rattle.xl_paint.proofs.PaintMade.{paint_fits, paint_made}
use Rattle.xl_paint.proofs.pixels.copy_rect.Goals as goal

pub put-requires : goal.put-requires
put-requires c =
    let change = copies c.args.doc.now c.args.rect c.args.from.0 c.args.u c.args.v in
    let P : List ℕ → Type 0 = λ bytes. IsLayer (Paints Pixels c.args.rect bytes change) (node c.args.doc.now c.args.id.0) in
    paint_fits Pixels c.args.rect _ change _ (subst P (sym c.deref.ensures.value) c.in_ok-bytes.ensures.paints)

pub returns : goal.returns
returns c = λ table.
    let d = c.args.doc.now in
    let change = copies c.args.doc.now c.args.rect c.args.from.0 c.args.u c.args.v in
    let P : List ℕ → Type 0 = λ bytes. IsLayer (Paints Pixels c.args.rect bytes change) (node d c.args.id.0) in
    paint_made d _ (edits.copy_rect c.args.id.0 c.args.rect c.args.from.0 c.args.u c.args.v) c.args.id.0 Pixels c.args.rect _ change
    refl c.in_ok-bytes.ensures.allowed table (λ next. refl)
    c.put.ensures.ids (subst P (sym c.deref.ensures.value) c.in_ok-bytes.ensures.paints) c.in_ok-put.ensures.ok
