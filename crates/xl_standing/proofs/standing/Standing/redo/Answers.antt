-- The last of what can be redone is made again, and can be undone.
use Rattle.std.proofs.Common.{◌≡◌, ◌∷◌, sym, ◌∙◌, ap, subst}
use Rattle.std.specs.Prelude.{reverse}
use Rattle.spec_history.specs.Machine.{push}
use Rattle.xl_calls.specs.Replies.{reply_of}
use Rattle.spec_standing.specs.Now.{Now, Response, Gives, next_version, redone, redone_of}
use Rattle.spec_standing.specs.Steps.{Step, stepped}
use Rattle.xl_standing.proofs.Trails.{reverse-pushed, reverse-popped}
use Rattle.xl_standing.proofs.standing.Standing.redo.Goals as goal

pub returns : goal.returns
returns c =
    let old : Now = record {
      document = c.self.inside.document;
      undo = reverse c.self.inside.undo;
      redo = reverse c.self.inside.redo;
      next_id = c.self.inside.next_id;
      next_group = c.self.inside.next_group;
      version = c.self.inside.version;
      cache = c.self.inside.cache;
    } in
    let group = c.in-Some.group in
    let forth : Step = c.in-Some.forth in
    let undo_is : reverse c.push-none.new.self ≡ push (group, stepped forth) old.undo =
    ap reverse c.push-none.ensures.list
    ∙ (reverse-pushed c.self.inside.undo (group, c.take.new.self)
    ∙ ap (λ (s : Step). push (group, s) old.undo) c.take.ensures.back) in
    let top : old.redo ≡ (group, forth) ∷ reverse c.pop.new.self =
    reverse-popped c.self.inside.redo c.pop.new.self (group, forth) c.in-Some.ensures.list in
    let is : (next_version (record {
      document = c.take.new.document;
      undo = reverse c.push-none.new.self;
      redo = reverse c.pop.new.self;
      next_id = c.self.inside.next_id;
      next_group = c.self.inside.next_group;
      version = c.self.inside.version;
      cache = c.take.new.cache;
    }) group) ≡ redone old =
    (λ i. next_version (record {
      document = c.take.ensures.to i;
      undo = undo_is i;
      redo = reverse c.pop.new.self;
      next_id = c.self.inside.next_id;
      next_group = c.self.inside.next_group;
      version = c.self.inside.version;
      cache = c.take.ensures.cache i;
    }) group) ∙ sym (ap (redone_of old) top) in
    subst (λ (n : Now). Gives (redone n) (reply_of c.next_version.result) c.next_version.new.self) c.self.view_is (
      c.next_version.ensures.0 ∙ ap (λ (t : Response). t.reply) is,
      c.next_version.ensures.1 ∙ ap (λ (t : Response). t.now) is,
    )
