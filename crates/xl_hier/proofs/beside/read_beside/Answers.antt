use Rattle.std.proofs.Common.{◌≡◌, List, [], get_or, length, sym, ap, subst, ◌∙◌, arith}
use Rattle.std.specs.Arc.{arc_value}
use Rattle.std.proofs.lemmas.Result.{err_from_is_err_and}
use Rattle.spec_document.specs.Grid.{tiles_along}
use Rattle.xl_hier.specs.declared.beside.BandRoom.{BandRoom}
use Rattle.xl_hier.specs.Bands.{BandRead}
use Rattle.xl_hier.proofs.Joined.{written_items, none_joined, joined_more, joined_fault}
use Rattle.xl_hier.proofs.beside.read_beside.Goals as goal

pub loop-band-init : goal.loop-band-init
loop-band-init g c =
    let bands = c.in_ok-bands.bands in
    let slots : length c.as_mut_slice.result.now ≡ length bands.items = ap length c.as_mut_slice.ensures.value in
    let same : length c.fill_bands.new.bands ≡ length bands.items = c.fill_bands.ensures.length ∙ slots in
    let items = written_items bands.len c.into_iter-band-iterator.result.rest.items c.fill_bands.new.bands bands.items
    c.into_iter-band-iterator.ensures.into_iter_gives.0 same (omega (arith, bands.ok.0)) in
    let count : length c.fill_bands.new.bands ≡ tiles_along c.args.frame.height = same ∙ c.in_ok-bands.ensures.count in
    none_joined (arc_value c.args.file.now).items c.args.first c.args.frame c.into_iter-band-iterator.result.rest.items
    c.in_ok-tiles.tiles.items c.in_ok-tiles.ensures.items (ap length items ∙ count)
    (λ k d h. subst (λ (bs : List BandRoom). BandRead (arc_value c.args.file.now).items c.args.first c.args.frame k []
    (get_or bs k d).tiles.items (get_or bs k d).outcome) (sym items)
    (c.fill_bands.ensures.read k d (omega (arith, h, ap length items, c.fill_bands.ensures.length))))

pub returns-in_err-outcome : goal.returns-in_err-outcome
returns-in_err-outcome g c =
    let p = err_from_is_err_and c.from_residual-in_err-outcome.result c.from_residual-in_err-outcome.ensures.1 in
    rw (p.1, p.2)
    (joined_fault c.in-Some.band c.next.new.self.rest.items c.loop-band.invariant c.in-Some.ensures.steps.0 c.in_err-outcome.field-0.0
    c.in_err-outcome.was)

pub loop-band-preserved : goal.loop-band-preserved
loop-band-preserved g c =
    joined_more c.in-Some.band c.next.new.self.rest.items c.loop-band.invariant c.in-Some.ensures.steps.0 c.in_ok-outcome.was
    c.append.new.self.items c.in_ok-append.ensures.items
