-- What is given is rows, or a pixel.
use Rattle.std.proofs.Common.{◌≡◌, sym, subst}
use Rattle.std.specs.Prelude.{OnOk}
use Rattle.xl_tiles.specs.Written.{written}
use Rattle.xl_paint.specs.declared.places.Spread.{Spread}
use Rattle.xl_paint.specs.Paint.{spread_over}
use Rattle.xl_paint.proofs.painting.put_plane.Goals as goal

pub returns-in-Rows-clause-ok : goal.returns-in-Rows-clause-ok
returns-in-Rows-clause-ok c =
    let P : Spread → Type 0 = λ spread. OnOk c.write_rect.result
    (c.write_rect.new.self ≡ written c.args.plane.now c.args.rect (spread_over c.args.rect spread c.args.bytes.now)) in
    subst P (sym c.in-Rows.is) c.write_rect.ensures.ok

pub returns-in-Pixel-clause-ok : goal.returns-in-Pixel-clause-ok
returns-in-Pixel-clause-ok c =
    let P : Spread → Type 0 = λ spread. OnOk c.fill_rect.result
    (c.fill_rect.new.self ≡ written c.args.plane.now c.args.rect (spread_over c.args.rect spread c.args.bytes.now)) in
    subst P (sym c.in-Pixel.is) c.fill_rect.ensures.ok
