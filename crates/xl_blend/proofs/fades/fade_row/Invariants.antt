use Rattle.std.proofs.Common.{◌≡◌}
use Rattle.xl_blend.specs.Rows.{faded, faded_row}
use Rattle.xl_blend.proofs.SoFar.{mapped_so_far}
use Rattle.xl_blend.proofs.fades.fade_row.Given as goal

abbrev pub invariant-loop-pixel : goal.invariant-loop-pixel
invariant-loop-pixel l = mapped_so_far (faded l.part) l.pixel-index l.pixel-items ≡ faded_row l.part l.initial.pixel-items
