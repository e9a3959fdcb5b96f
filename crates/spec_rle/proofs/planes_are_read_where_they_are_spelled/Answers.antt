use Rattle.spec_rle.proofs.SpelledBack.{spelled_has, spelled_read}
use Rattle.spec_rle.proofs.planes_are_read_where_they_are_spelled.Goals as goal

pub returns : goal.returns
returns c = λ file at n part all some. (spelled_has file at n part all some, spelled_read file at n part)
