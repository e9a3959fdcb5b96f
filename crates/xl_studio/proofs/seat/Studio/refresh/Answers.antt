-- The picture is that of the first hold's job, and the second hold says what became of it.
use Rattle.xl_history.specs.History.{version}
use Rattle.xl_studio.specs.Moments.{entries_in}
use Rattle.xl_studio.specs.Seats.{base_of, history_of, front_of, last_turn}
use Rattle.xl_studio.proofs.Answered.{goes_on_then}
use Rattle.xl_studio.proofs.Grown.{entries-prefix}
use Rattle.xl_studio.proofs.Seated.{latest_prefix}
use Rattle.xl_studio.proofs.Refreshed.{picture_of_job, is_refreshed}
use Rattle.xl_studio.proofs.seat.Studio.refresh.Goals as goal

pub hand_in-requires-clause-done : goal.hand_in-requires-clause-done
hand_in-requires-clause-done g c κs within =
    picture_of_job (history_of (base_of c.args.self.now) (front_of c.job_for.new.seat)) c.args.node.0 c.args.at c.in-Ok-Some.job
    c.compose-done.result (rw c.in-Ok-Some.field-0-is at c.in-Ok-Some.ensures.made) c.compose-done.ensures.done

pub returns-in-Ok-Some-clause-refreshed : goal.returns-in-Ok-Some-clause-refreshed
returns-in-Ok-Some-clause-refreshed g c =
    let old = front_of c.args.seat.now in
    let mid = front_of c.job_for.new.seat in
    let least = version (history_of (base_of c.args.self.now) old) in
    let seen = latest_prefix (entries_in old) (entries_in mid) (entries-prefix old mid c.job_for.ensures.heard.begins) in
    is_refreshed (base_of c.args.self.now) mid (front_of c.hand_in.new.seat) c.args.node.0 c.args.at c.in-Ok-Some.job
    c.compose-done.result c.args.steps.now c.compose-done.new.steps least c.hand_in.result (last_turn c.hand_in.new.seat)
    c.job_for.ensures.goes_on.seat.front.legal seen c.hand_in.ensures.heard.begins
    (rw c.in-Ok-Some.field-0-is at c.in-Ok-Some.ensures.made) c.compose-done.ensures.done c.compose-done.ensures.cost
    c.hand_in.ensures.finished c.hand_in.ensures.handed

pub returns-in-Ok-Some-clause-goes_on : goal.returns-in-Ok-Some-clause-goes_on
returns-in-Ok-Some-clause-goes_on g c =
    goes_on_then c.args.self.now c.args.seat.now c.job_for.new.seat c.hand_in.new.seat c.job_for.ensures.goes_on
    c.hand_in.ensures.goes_on
