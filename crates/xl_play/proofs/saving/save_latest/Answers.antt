use Rattle.std.proofs.Common.{inr}
use Rattle.xl_play.proofs.Keeping.{save_kept}
use Rattle.xl_play.proofs.Saved.{begun_out, begun_back, save_made, save_between, ended_text}
use Rattle.xl_play.proofs.saving.save_latest.Goals as goal

pub end_save-reply-requires-clause-out : goal.end_save-reply-requires-clause-out
end_save-reply-requires-clause-out g c κs within =
    let s = c.in-Snapshot in
    begun_out c.args.core.now c.begin_save.new.self c.args.session s.version s.document s.shelf
    (rw s.is at c.in_ok-document.ensures.begun)

pub end_save-reply-requires-clause-returns : goal.end_save-reply-requires-clause-returns
end_save-reply-requires-clause-returns g c κs within =
    let s = c.in-Snapshot in
    begun_back g.D.Shelf.shelf_state c.args.core.now
    c.begin_save.new.self c.args.session s.version s.document s.shelf c.save_document-how.new.shelf
    c.save_document-how.result (rw s.is at c.in_ok-document.ensures.begun) c.requires.legal
    (rw s.is at c.in_ok-document.ensures.right) c.save_document-how.ensures.saved

pub returns-clause-begun : goal.returns-clause-begun
returns-clause-begun g c =
    let s = c.in-Snapshot in
    inr (
      _,
      save_made c.args.core.now c.begin_save.new.self c.end_save-reply.new.self c.args.session s.version s.document s.shelf
          c.save_document-how.new.shelf c.save_document-how.result _ (rw s.is at c.in_ok-document.ensures.begun)
          c.end_save-reply.ensures.ended,
    )

pub returns-in-Done : goal.returns-in-Done
returns-in-Done g c =
    let s = c.in-Snapshot in
    let begun = rw s.is at c.in_ok-document.ensures.begun in
    let ended = c.end_save-reply.ensures.ended in
    record {
      between =
          save_between c.args.core.now c.begin_save.new.self c.end_save-reply.new.self c.args.session s.version s.document s.shelf
          c.save_document-how.new.shelf c.save_document-how.result _ begun ended c.end_save-reply.ensures.legal;
      saved = save_made c.args.core.now c.begin_save.new.self c.end_save-reply.new.self c.args.session s.version s.document s.shelf
          c.save_document-how.new.shelf c.save_document-how.result _ begun ended;
      begun = inr (
        _,
        save_made c.args.core.now c.begin_save.new.self c.end_save-reply.new.self c.args.session s.version s.document s.shelf
            c.save_document-how.new.shelf c.save_document-how.result _ begun ended,
      );
      text = ended_text c.end_save-reply.result _ c.save_document-how.result c.in-Done.is ended.0;
      kept = save_kept c.args.core.now c.begin_save.new.self c.end_save-reply.new.self c.args.session s.version s.document s.shelf
          c.save_document-how.new.shelf c.save_document-how.result _ begun ended
          c.requires.kept c.requires.legal c.in_ok-document.ensures.legal c.in_ok-document.ensures.pictures
          c.end_save-reply.ensures.legal c.end_save-reply.ensures.pictures;
    }
