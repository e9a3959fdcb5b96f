-- The layer that is written is the one that the fill makes.
use Rattle.std.proofs.Common.{List, ℕ, refl, sym, subst}
use Rattle.spec_edit.specs.Edit as edits
use Rattle.spec_edit.specs.Refusal.{node}
use Rattle.xl_paint.specs.declared.places.LayerPart.TheVariants.{Pixels}
use Rattle.xl_checks.specs.Found.{IsLayer}
use Rattle.xl_paint.specs.Paint.{spread_over, Paints, fills}
use Rattle.xl_paint.proofs.PaintMade.{paint_fits, paint_made}
use Rattle.xl_paint.proofs.pixels.fill.Goals as goal

pub put-requires : goal.put-requires
put-requires c =
    let change = fills c.args.doc.now c.args.rect c.args.pixel.now in
    let P : List ℕ → Type 0 = λ given. IsLayer (Paints Pixels c.args.rect (spread_over c.args.rect c.in_ok-new.new.spread given) change) (node c.args.doc.now c.args.id.0) in
    paint_fits Pixels c.args.rect _ change _ (subst P (sym c.deref.ensures.value) c.in_ok-new.ensures.paints)

pub returns : goal.returns
returns c = λ table.
    let d = c.args.doc.now in
    let change = fills d c.args.rect c.args.pixel.now in
    let P : List ℕ → Type 0 = λ given. IsLayer (Paints Pixels c.args.rect (spread_over c.args.rect c.in_ok-new.new.spread given) change) (node d c.args.id.0) in
    paint_made d _ (edits.fill c.args.id.0 c.args.rect c.args.pixel.now) c.args.id.0 Pixels c.args.rect _ change refl
    c.in_ok-new.ensures.allowed table (λ next. refl)
    c.put.ensures.ids (subst P (sym c.deref.ensures.value) c.in_ok-new.ensures.paints) c.in_ok-put.ensures.ok
