use Rattle.std.proofs.Common.{◌<◌, arith}
use Rattle.std.specs.Arc.{arc_value}
use Rattle.std.proofs.lemmas.Result.{err_from_is_err_and}
use Rattle.spec_document.specs.Grid.{tiles_along}
use Rattle.xl_hier.proofs.BandsRead.{none_read, band_next, band_fault}
use Rattle.xl_hier.proofs.band.read_bands.Goals as goal

pub loop-row-init : goal.loop-row-init
loop-row-init c =
    none_read (arc_value c.args.file.now).items c.args.first c.args.frame c.in_ok-tiles.tiles.items c.in_ok-tiles.ensures.items

pub returns-in_err-read_band : goal.returns-in_err-read_band
returns-in_err-read_band c =
    let p = err_from_is_err_and c.from_residual-in_err-read_band.result c.from_residual-in_err-read_band.ensures.1 in
    let within : c.loop-row.row < tiles_along c.args.frame.height = omega (arith, c.rows-rows.ensures) in
    rw (p.1, p.2)
    (band_fault c.loop-row.invariant within c.in_err-read_band.field-0.0 c.loop-row.tiles.items c.read_band.new.tiles.items
    c.in_err-read_band.ensures)

pub loop-row-preserved : goal.loop-row-preserved
loop-row-preserved c =
    let within : c.loop-row.row < tiles_along c.args.frame.height = omega (arith, c.rows-rows.ensures) in
    band_next c.loop-row.invariant within c.in_ok-read_band.ensures
