use Rattle.std.proofs.Common.{inr}
use Rattle.xl_calls.specs.Replies.{reply_of}
use Rattle.xl_studio.specs.Seats.{base_of, opening_shelf, known_by}
use Rattle.xl_studio.proofs.Answered.{goes_on_then}
use Rattle.xl_studio.proofs.SecondHold.{saved_comes_back, is_whole, is_whole_by}
use Rattle.xl_studio.proofs.seat.Studio.save.Goals as goal

pub end-requires-clause-back : goal.end-requires-clause-back
end-requires-clause-back g c κs within =
    let s = c.in-Snapshot in
    saved_comes_back g.D.Shelf.shelf_state
    (opening_shelf c.args.self.now) (base_of c.args.self.now) c.args.session s.document s.shelf
    c.save_document-how.new.shelf c.save_document-how.result (known_by c.args.seat.now) (known_by c.begin_when_in.new.seat)
    (rw s.is at c.in_ok-document.ensures.begun) c.save_document-how.ensures.saved

pub returns-in-Snapshot-clause-goes_on : goal.returns-in-Snapshot-clause-goes_on
returns-in-Snapshot-clause-goes_on g c =
    goes_on_then c.args.self.now c.args.seat.now c.begin_when_in.new.seat c.end.new.seat c.begin_when_in.ensures.goes_on
    c.end.ensures.goes_on

pub returns-in-Snapshot-clause-saved : goal.returns-in-Snapshot-clause-saved
returns-in-Snapshot-clause-saved g c =
    let s = c.in-Snapshot in
    record {
      is = inr (is_whole g.D.Shelf.shelf_state
          (opening_shelf c.args.self.now) (base_of c.args.self.now) c.args.session s.document s.shelf
          c.save_document-how.new.shelf c.save_document-how.result (reply_of c.end.result) (known_by c.args.seat.now)
          (known_by c.begin_when_in.new.seat) (known_by c.end.new.seat)
          (rw s.is at c.in_ok-document.ensures.begun) c.save_document-how.ensures.saved c.end.ensures.ended);
    }

pub returns-in-Snapshot-clause-coded : goal.returns-in-Snapshot-clause-coded
returns-in-Snapshot-clause-coded g c =
    let s = c.in-Snapshot in
    record {
      is = inr (is_whole_by g.C.PlaneCoder.fits g.D.Shelf.shelf_state
          (opening_shelf c.args.self.now) (base_of c.args.self.now) c.args.session s.document s.shelf
          c.save_document-how.new.shelf c.save_document-how.result (reply_of c.end.result) (known_by c.args.seat.now)
          (known_by c.begin_when_in.new.seat) (known_by c.end.new.seat)
          (rw s.is at c.in_ok-document.ensures.begun) c.save_document-how.ensures.saved c.save_document-how.ensures.coded
          c.end.ensures.ended);
    }
