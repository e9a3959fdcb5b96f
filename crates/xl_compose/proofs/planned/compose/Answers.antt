use Rattle.std.proofs.Common.{◌≡◌, ◌*◌, ◌≤◌, length, refl, replicate, ◌∙◌, ap}
use Rattle.std.proofs.lemmas.List.{length-replicate}
use Rattle.spec_document.specs.Over.{clear}
use Rattle.xl_compose.specs.Levels.{points}
use Rattle.xl_compose.specs.Pieces.{composed}
use Rattle.xl_compose.proofs.JobPieces.{all_clear, composed_is, first_in, fit_in}
use Rattle.xl_compose.proofs.planned.compose.Goals as goal

pub lay_pieces-requires-clause-fit : goal.lay_pieces-requires-clause-fit
lay_pieces-requires-clause-fit g c =
    let band = c.job.inside.band in
    let levels = c.job.inside.levels in
    let scratch = c.as_mut_slice-pictures.result.now in
    let cleared : scratch ≡ replicate (levels * points band) clear =
    c.as_mut_slice-pictures.ensures.value ∙ c.clear_pixels.ensures in
    let size : length scratch ≡ levels * points band = ap length cleared ∙ length-replicate (levels * points band) clear in
    rw c.as_slice-2.ensures.value (fit_in levels (length scratch) band c.job.inside.pieces.items size c.job.invariant.fit)

pub lay_pieces-requires-clause-blank : goal.lay_pieces-requires-clause-blank
lay_pieces-requires-clause-blank g c =
    let n = c.job.inside.levels * points c.job.inside.band in
    λ i. all_clear n i c.as_mut_slice-pictures.result.now (c.as_mut_slice-pictures.ensures.value ∙ c.clear_pixels.ensures)

pub returns-clause-done : goal.returns-clause-done
returns-clause-done g c =
    let band = c.job.inside.band in
    let levels = c.job.inside.levels in
    let scratch = c.lay_pieces.new.scratch in
    let cleared : c.as_mut_slice-pictures.result.now ≡ replicate (levels * points band) clear =
    c.as_mut_slice-pictures.ensures.value ∙ c.clear_pixels.ensures in
    let size : length scratch ≡ levels * points band = c.lay_pieces.ensures.length
    ∙ (ap length cleared ∙ length-replicate (levels * points band) clear) in
    let fits : points band ≤ length scratch = first_in levels (length scratch) (points band) size c.job.invariant.some in
    record {
      node_is = ap (λ j. j.stack) c.job.view_is;
      at_is = ap (λ j. j.at) c.job.view_is;
      version_is = ap (λ j. j.version) c.job.view_is;
      picture_is = c.set_pixels.ensures
          ∙ (composed_is c.as_slice.result.now band c.as_slice-2.result.now scratch (points band) refl fits
          c.lay_pieces.ensures.shown
          ∙ ((λ i. composed (c.as_slice.ensures i) band (c.as_slice-2.ensures.value i)) ∙ ap (λ j. j.picture) c.job.view_is));
    }
