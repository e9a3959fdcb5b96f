-- The layer that is written is the one that the edit makes.
use Rattle.std.proofs.Common.{List, ℕ, refl, sym, subst}
use Rattle.spec_edit.specs.Edit as edits
use Rattle.spec_edit.specs.Refusal.{node}
use Rattle.xl_paint.specs.declared.places.LayerPart.TheVariants.{Mask}
use Rattle.xl_checks.specs.Found.{IsLayer}
use Rattle.xl_paint.specs.Paint.{spread_over, Paints, fills_mask}
use Rattle.xl_paint.proofs.PaintMade.{paint_fits, paint_made}
use Rattle.xl_paint.proofs.pixels.fill_mask.Goals as goal

pub put-requires : goal.put-requires
put-requires c =
    let change = fills_mask c.args.doc.now c.args.rect c.args.value in
    let P : List ℕ → Type 0 = λ given. IsLayer (Paints Mask c.args.rect (spread_over c.args.rect c.in_ok-new.new.spread given) change) (node c.args.doc.now c.args.id.0) in
    paint_fits Mask c.args.rect _ change _ (subst P (sym c.deref.ensures.value) c.in_ok-new.ensures.paints)

pub returns : goal.returns
returns c = λ table.
    let d = c.args.doc.now in
    let change = fills_mask c.args.doc.now c.args.rect c.args.value in
    let P : List ℕ → Type 0 = λ given. IsLayer (Paints Mask c.args.rect (spread_over c.args.rect c.in_ok-new.new.spread given) change) (node d c.args.id.0) in
    paint_made d _ (edits.fill_mask c.args.id.0 c.args.rect c.args.value) c.args.id.0 Mask c.args.rect _ change refl
    c.in_ok-new.ensures.allowed table (λ next. refl)
    c.put.ensures.ids (subst P (sym c.deref.ensures.value) c.in_ok-new.ensures.paints) c.in_ok-put.ensures.ok
