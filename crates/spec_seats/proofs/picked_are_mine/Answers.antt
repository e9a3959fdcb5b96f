use Rattle.spec_seats.proofs.Whole.{mine_picked}
use Rattle.spec_seats.proofs.picked_are_mine.Goals as goal

pub returns : goal.returns
returns c = λ es places eight once of session. mine_picked es places eight once of session
