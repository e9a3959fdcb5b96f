use Rattle.std.proofs.Common.{◌≡◌, map}
use Rattle.xl_blend.specs.Shown.{shown}
use Rattle.xl_blend.proofs.SoFar.{mapped_so_far}
use Rattle.xl_blend.proofs.normal_rows.show.Given as goal

abbrev pub invariant-loop-pixel : goal.invariant-loop-pixel
invariant-loop-pixel l = mapped_so_far shown l.pixel-index l.pixel-items ≡ map shown l.initial.pixel-items
