use Rattle.spec_document.proofs.OverLemmas.{over-is_pixel}
use Rattle.spec_document.proofs.over_is_pixel.Goals as goal

pub returns : goal.returns
returns c = over-is_pixel
