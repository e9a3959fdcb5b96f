use Rattle.spec_seats.proofs.Whole.{seats_make_text}
use Rattle.spec_seats.proofs.seats_make_a_text.Goals as goal

pub returns : goal.returns
returns c =
    λ base scripts chests es places eight once legal made. seats_make_text es places eight once base scripts chests legal made
