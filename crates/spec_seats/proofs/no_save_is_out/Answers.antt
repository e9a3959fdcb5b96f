use Rattle.spec_seats.proofs.Whole.{no_save_out}
use Rattle.spec_seats.proofs.no_save_is_out.Goals as goal

pub returns : goal.returns
returns c = λ base es places eight once of. no_save_out es places eight once base of
