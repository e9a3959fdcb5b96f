use Rattle.std.proofs.Common.{◌≡◌, ◌+◌, ◌-◌, ◌*◌, ◌≤◌, length, take, drop, ◌∙◌, ap, arith, length-take-le}
use Rattle.std.proofs.lemmas.List.{length-drop}
use Rattle.xl_compose.specs.Levels.{points}
use Rattle.xl_compose.specs.Pieces.{kept_pixel}
use Rattle.xl_compose.proofs.LevelScratch.{clean_laid, leaf_laid}
use Rattle.xl_compose.proofs.laying.lay_piece.Goals as goal

pub returns-in-Leaf-clause-laid : goal.returns-in-Leaf-clause-laid
returns-in-Leaf-clause-laid g c =
    let at = c.args.piece.now.level * points c.args.band in
    let m = at + points c.args.band - at in
    let same : m ≡ points c.args.band = omega arith in
    let fits : at + points c.args.band ≤ length c.args.scratch.now = omega (arith, c.requires.fits.0) in
    let many : length (take m (drop at c.args.scratch.now)) ≡ points c.args.band =
    length-take-le m (drop at c.args.scratch.now) (omega (arith, same, fits, length-drop at c.args.scratch.now)) ∙ same in
    leaf_laid c.args.colours.now c.args.band c.args.piece.now c.in-Leaf.mode c.in-Leaf.opacity c.in-Leaf.layer m c.args.scratch.now
    c.lay_layer.new.picture c.in-Leaf.is
    same (c.lay_layer.ensures.length ∙ many) fits c.lay_layer.ensures.each

pub returns-in-Clean-clause-laid : goal.returns-in-Clean-clause-laid
returns-in-Clean-clause-laid g c =
    let at = c.args.piece.now.level * points c.args.band in
    let m = at + points c.args.band - at in
    let same : m ≡ points c.args.band = omega arith in
    let fits : at + points c.args.band ≤ length c.args.scratch.now = omega (arith, c.requires.fits.0) in
    let many : length (take m (drop at c.args.scratch.now)) ≡ points c.args.band =
    length-take-le m (drop at c.args.scratch.now) (omega (arith, same, fits, length-drop at c.args.scratch.now)) ∙ same in
    let bytes_are : c.bytes.result.now ≡ c.in-Clean.picture = c.bytes.ensures in
    clean_laid c.args.colours.now c.args.band c.args.piece.now c.in-Clean.picture m c.args.scratch.now c.kept_row.new.row
    c.in-Clean.is
    same (c.kept_row.ensures.length ∙ many) fits
    (λ k h. c.kept_row.ensures.each k (omega (arith, h, many)) ∙ ap (λ bytes. kept_pixel bytes k) bytes_are)
