use Rattle.std.proofs.Common.{◌≡◌, ℕ}
use Rattle.spec_document.specs.declared.Pixel.{Pixel}
use Rattle.xl_blend.specs.Rows.{faded, faded_row_by}
use Rattle.xl_blend.proofs.SoFar.{so_far}
use Rattle.xl_blend.proofs.fades.fade_row_by.Given as goal

abbrev pub invariant-loop-i : goal.invariant-loop-i
invariant-loop-i l = so_far (λ (p : Pixel × ℕ). faded p.1 p.0) l.i l.row l.parts ≡ faded_row_by l.parts l.initial.row
