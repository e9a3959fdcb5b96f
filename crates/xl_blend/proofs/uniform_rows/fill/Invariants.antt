use Rattle.std.proofs.Common.{◌≡◌, map}
use Rattle.spec_document.specs.declared.Pixel.{Pixel}
use Rattle.xl_blend.proofs.SoFar.{mapped_so_far}
use Rattle.xl_blend.proofs.uniform_rows.fill.Given as goal

abbrev pub invariant-loop-place : goal.invariant-loop-place
invariant-loop-place l =
    mapped_so_far (λ (_ : Pixel). l.fn.pixel) l.place-index l.place-items ≡ map (λ (_ : Pixel). l.fn.pixel) l.initial.place-items
