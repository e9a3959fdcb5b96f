use Rattle.std.proofs.Common.{◌≡◌, ◌-◌, ◌≤◌, length}
use Rattle.spec_document.specs.declared.Pixel.{Pixel}
use Rattle.spec_document.specs.Over.{over}
use Rattle.xl_blend.specs.Rows.{over_rows}
use Rattle.xl_blend.proofs.SoFar.{so_far}
use Rattle.xl_blend.proofs.rows.lay_row.Given as goal

abbrev pub invariant-loop-at : goal.invariant-loop-at
invariant-loop-at l = record {
  done : so_far (λ (p : Pixel × Pixel). over l.mode p.0 p.1) l.at l.below l.above ≡ over_rows l.mode l.initial.below l.above;
  within : l.at ≤ length l.below;
}

abbrev pub decreases-loop-at : goal.decreases-loop-at
decreases-loop-at l = length l.initial.below - l.at
