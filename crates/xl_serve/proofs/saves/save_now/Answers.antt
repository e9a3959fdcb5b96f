use Rattle.xl_play.proofs.Saved.{begun_out, begun_back, save_made}
use Rattle.xl_serve.proofs.Saving.{save_reply, save_goes_on}
use Rattle.xl_serve.proofs.saves.save_now.Goals as goal

pub end_save-reply-requires-clause-out : goal.end_save-reply-requires-clause-out
end_save-reply-requires-clause-out g c κs within =
    let s = c.in-Snapshot in
    begun_out c.args.core.now c.begin_save.new.self c.args.session s.version s.document s.shelf
    (rw s.is at c.in_ok-version.ensures.begun)

pub end_save-reply-requires-clause-returns : goal.end_save-reply-requires-clause-returns
end_save-reply-requires-clause-returns g c κs within =
    let s = c.in-Snapshot in
    begun_back g.D.Shelf.shelf_state c.args.core.now
    c.begin_save.new.self c.args.session s.version s.document s.shelf c.save_document-how.new.shelf
    c.save_document-how.result (rw s.is at c.in_ok-version.ensures.begun) c.requires.ready.legal
    (rw s.is at c.in_ok-version.ensures.right) c.save_document-how.ensures.saved

pub returns-clause-goes_on : goal.returns-clause-goes_on
returns-clause-goes_on g c =
    let s = c.in-Snapshot in
    save_goes_on c.args.core.now c.begin_save.new.self c.end_save-reply.new.self c.args.session s.version s.document s.shelf
    c.save_document-how.new.shelf c.save_document-how.result _ (rw s.is at c.in_ok-version.ensures.begun) c.end_save-reply.ensures.ended
    c.end_save-reply.ensures.legal

pub returns-clause-reply : goal.returns-clause-reply
returns-clause-reply g c =
    let s = c.in-Snapshot in
    save_reply c.args.core.now c.begin_save.new.self c.end_save-reply.new.self c.args.session s.version s.document s.shelf
    c.save_document-how.new.shelf c.save_document-how.result _ (rw s.is at c.in_ok-version.ensures.begun) c.end_save-reply.ensures.ended
    c.requires.ready.legal

pub returns-clause-saved : goal.returns-clause-saved
returns-clause-saved g c =
    let s = c.in-Snapshot in
    save_made c.args.core.now c.begin_save.new.self c.end_save-reply.new.self c.args.session s.version s.document s.shelf
    c.save_document-how.new.shelf c.save_document-how.result _ (rw s.is at c.in_ok-version.ensures.begun) c.end_save-reply.ensures.ended
