-- The layer that is written is the one that the edit makes.
use Rattle.std.proofs.Common.{List, ℕ, refl, sym, subst}
use Rattle.spec_edit.specs.Edit as edits
use Rattle.spec_edit.specs.Refusal.{node}
use Rattle.xl_paint.specs.declared.places.LayerPart.TheVariants.{Pixels}
use Rattle.xl_checks.specs.Found.{IsLayer}
use Rattle.xl_paint.specs.Paint.{Paints, writes}
use Rattle.xl_paint.proofs.PaintMade.{paint_fits, paint_made}
use Rattle.xl_paint.proofs.pixels.write.Goals as goal

pub put-requires : goal.put-requires
put-requires c =
    paint_fits Pixels c.args.rect _ (writes c.args.doc.now c.args.rect c.args.bytes.now) _ c.in_ok-check_given.ensures.paints

pub returns-then-takes_as_given : goal.returns-then-takes_as_given
returns-then-takes_as_given c = λ table.
    let d = c.args.doc.now in
    paint_made d _ (edits.write c.args.id.0 c.args.rect c.args.bytes.now) c.args.id.0 Pixels c.args.rect _
    (writes d c.args.rect c.args.bytes.now) refl
    c.in_ok-check_given.ensures.allowed table
    (λ next. refl) c.put.ensures.ids c.in_ok-check_given.ensures.paints c.in_ok-put.ensures.ok

pub put-requires-2 : goal.put-requires-2
put-requires-2 c =
    let change = writes c.args.doc.now c.args.rect c.args.bytes.now in
    let P : List ℕ → Type 0 = λ bytes. IsLayer (Paints Pixels c.args.rect bytes change) (node c.args.doc.now c.args.id.0) in
    paint_fits Pixels c.args.rect _ change _ (subst P (sym c.deref.ensures.value) c.in_ok-mixed.ensures.paints)

pub returns : goal.returns
returns c = λ table.
    let d = c.args.doc.now in
    let change = writes d c.args.rect c.args.bytes.now in
    let P : List ℕ → Type 0 = λ bytes. IsLayer (Paints Pixels c.args.rect bytes change) (node d c.args.id.0) in
    paint_made d _ (edits.write c.args.id.0 c.args.rect c.args.bytes.now) c.args.id.0 Pixels c.args.rect _ change refl
    c.in_ok-mixed.ensures.allowed table (λ next. refl)
    c.put-2.ensures.ids (subst P (sym c.deref.ensures.value) c.in_ok-mixed.ensures.paints) c.in_ok-put-2.ensures.ok
