-- The group comes on top of those that can be undone, which drop the oldest where they are as many as may be.
use Rattle.std.proofs.Common.{◌≡◌, ◌+◌, ◌-◌, ◌≤◌, [], ◌∷◌, ◌++◌, length, take, arith, sym, ◌∙◌, ap, subst}
use Rattle.std.specs.Prelude.{reverse}
use Rattle.spec_document.specs.Document.{Document}
use Rattle.spec_edit.specs.Apply.{apply_group}
use Rattle.spec_history.specs.Machine.{push}
use Rattle.spec_history.specs.declared.TheConstants.{MAX_UNDO}
use Rattle.xl_edit.specs.Applied.{at}
use Rattle.xl_calls.specs.Edits.{edits_of}
use Rattle.xl_calls.specs.Replies.{reply_of}
use Rattle.spec_standing.specs.Change.{Change, change_between, gone_along, IsCacheOf}
use Rattle.spec_standing.specs.Group.{damage_along}
use Rattle.spec_standing.specs.Now.{Now, Response, Gives, next_version, step_made, made_now, at_now}
use Rattle.spec_standing.specs.Steps.{Step, Lead, IsChange, stepped}
use Rattle.xl_undo.specs.Leads.{Way}
use Rattle.xl_standing.proofs.Making.{leaves_same, turned_change}
use Rattle.xl_standing.proofs.Sides.{sides_same}
use Rattle.xl_standing.proofs.Trails.{reverse-pushed, newest-few, lead-take}
use Rattle.xl_standing.proofs.standing.Standing.take_group.Goals as goal

-- where no group is made all is as before
pub invariant_of-self : goal.invariant_of-self
invariant_of-self g c =
    subst (λ (d : Document). Lead d (reverse c.self.inside.undo) × Lead d (reverse c.self.inside.redo)
    × (length c.self.inside.undo + length c.self.inside.redo ≤ MAX_UNDO)) (sym c.in-Err.ensures.document) c.self.invariant

pub returns-in-Err-clause-chest : goal.returns-in-Err-clause-chest
returns-in-Err-clause-chest g c =
    leaves_same _ _ (at c.self.inside.document c.self.inside.next_id) (at_now c.args.self.now) (edits_of c.args.edits.now)
    c.in-Err.refused (ap at_now c.self.view_is) c.in-Err.ensures.chest

-- the change leads from the document before
pub go-requires-clause-leads : goal.go-requires-clause-leads
go-requires-clause-leads g c =
    let old = c.self.inside.document in
    let new = c.make.new.document in
    let marks = c.in-Ok.ensures.made.marks in (
      old,
      new,
      record {
        from = c.know_limits.ensures;
        to = c.know_limits-2.ensures;
        leads = marks ∙ ap (change_between old new) (sym (ap (λ (x : Change). x.damage) marks));
        here = subst (λ (n : Now). IsCacheOf n.document n.cache) (sym c.self.view_is) c.requires.ready.kept.of;
      },
    )

pub new-back-requires : goal.new-back-requires
new-back-requires g c =
    let made = c.in-Ok.made in
    let is_made = c.in-Ok.ensures.made in
    let old = at c.self.inside.document c.self.inside.next_id in
    let new = at c.make.new.document c.make.new.next_id in
    let edits = edits_of c.args.edits.now in
    let back = turned_change old.document new.document made.change c.go.new.self (damage_along old edits made.tables) is_made.marks
    c.go.ensures.back (sides_same old new edits made.tables is_made.applied) in
    record { change = subst (λ (w : Way). IsChange w.from w.to c.go.new.self) (sym is_made.back) back }

-- the group comes on top
pub invariant_of-self-2 : goal.invariant_of-self-2
invariant_of-self-2 g c =
    let d = c.make.new.document in
    let back = c.in-Ok.ensures.made.back in
    let rest = take (MAX_UNDO - 1) (reverse c.self.inside.undo) in
    let undo : reverse c.push-oldest.new.self ≡ push (c.self.inside.next_group, c.new-back.result) (reverse c.self.inside.undo) =
    ap reverse c.push-oldest.ensures.list ∙ reverse-pushed c.self.inside.undo (c.self.inside.next_group, c.new-back.result) in
    let to : c.new-back.result.to ≡ c.self.inside.document =
    ap (λ (s : Step). s.to) c.new-back.ensures ∙ ap (λ (w : Way). w.to) back in
    let size : length c.push-oldest.new.self ≤ MAX_UNDO =
    subst (λ xs. length xs ≤ MAX_UNDO) (sym c.push-oldest.ensures.list)
    (newest-few MAX_UNDO (c.self.inside.undo ++ (c.self.inside.next_group, c.new-back.result) ∷ [])).0 in
    let none = ap length c.clear.ensures in (
      subst (Lead d) (sym undo) (
        ap (λ (s : Step). s.from) c.new-back.ensures ∙ ap (λ (w : Way). w.from) back,
        subst (λ (x : Document). Lead x rest) (sym to)
            (lead-take c.self.inside.document (MAX_UNDO - 1) (reverse c.self.inside.undo) c.self.invariant.0),
      ),
      subst (λ xs. Lead d (reverse xs)) (sym c.clear.ensures) tt,
      omega (arith, size, none),
    )

pub returns-clause-made : goal.returns-clause-made
returns-clause-made g c =
    let old : Now = record {
      document = c.self.inside.document;
      undo = reverse c.self.inside.undo;
      redo = reverse c.self.inside.redo;
      next_id = c.self.inside.next_id;
      next_group = c.self.inside.next_group;
      version = c.self.inside.version;
      cache = c.self.inside.cache;
    } in
    let made = c.in-Ok.made in
    let is_made = c.in-Ok.ensures.made in
    let edits = edits_of c.args.edits.now in
    let damage = damage_along (at_now old) edits made.tables in
    let new = at c.make.new.document c.make.new.next_id in
    let back : c.new-back.result ≡ stepped (step_made old new damage) =
    c.new-back.ensures
    ∙ (λ i. record {
      from = (ap (λ (w : Way). w.from) is_made.back) i;
      to = (ap (λ (w : Way). w.to) is_made.back) i;
      damage = (ap (λ (x : Change). x.damage) c.go.ensures.back ∙ ap (λ (x : Change). x.damage) is_made.marks) i;
    }) in
    let cache = c.go.ensures.cache
    ∙ ap (λ (x : Change). gone_along x (c.self.inside.version + 1) c.self.inside.cache) is_made.marks in
    let undo = ap reverse c.push-oldest.ensures.list
    ∙ (reverse-pushed c.self.inside.undo (c.self.inside.next_group, c.new-back.result)
    ∙ ap (λ (s : Step). push (c.self.inside.next_group, s) old.undo) back) in
    let is : next_version (record {
      document = c.make.new.document;
      undo = reverse c.push-oldest.new.self;
      redo = reverse c.clear.new.self;
      next_id = c.make.new.next_id;
      next_group = c.self.inside.next_group + 1;
      version = c.self.inside.version;
      cache = c.go.new.cache;
    }) c.self.inside.next_group ≡ made_now old damage (apply_group (at_now old) edits made.tables) =
    (λ i. next_version (record {
      document = c.make.new.document;
      undo = undo i;
      redo = reverse (c.clear.ensures i);
      next_id = c.make.new.next_id;
      next_group = c.self.inside.next_group + 1;
      version = c.self.inside.version;
      cache = cache i;
    }) c.self.inside.next_group) ∙ sym (ap (made_now old damage) is_made.applied) in
    subst (λ (n : Now). Gives (made_now n (damage_along (at_now n) edits made.tables) (apply_group (at_now n) edits made.tables))
    (reply_of c.next_version-reply.result) c.next_version-reply.new.self) c.self.view_is (
      c.next_version-reply.ensures.0 ∙ ap (λ (t : Response). t.reply) is,
      c.next_version-reply.ensures.1 ∙ ap (λ (t : Response). t.now) is,
    )
