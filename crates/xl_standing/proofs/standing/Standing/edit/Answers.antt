-- A group is made where its guard has not moved.
use Rattle.std.proofs.Common.{◌≡◌, true, cond, ap, sym, ◌∙◌, subst}
use Rattle.spec_edit.specs.Apply.{apply_group}
use Rattle.spec_history.specs.Machine.{names, moved}
use Rattle.spec_standing.specs.Group.{damage_along}
use Rattle.xl_calls.specs.Edits.{edits_of}
use Rattle.xl_calls.specs.Replies.{reply_of}
use Rattle.spec_standing.specs.Now.{Now, Gives, at_now, made_now, stays}
use Rattle.spec_standing.proofs.Allowed.{part_named}
use Rattle.xl_standing.proofs.Making.{part_left, asked_where}
use Rattle.xl_standing.proofs.standing.Standing.edit.Goals as goal

pub returns-in-Ok-clause-response : goal.returns-in-Ok-clause-response
returns-in-Ok-clause-response g c =
    let a = c.in-Ok.answered in
    let old = c.args.self.now in
    let edits = edits_of c.args.edits.now in
    let named : names c.args.guard old.version ≡ true =
    ap (λ (n : Now). names c.args.guard n.version) (sym c.self.view_is) ∙ (sym c.is_named.ensures ∙ c.if-not-is_named.false) in
    let made = made_now old (damage_along (at_now old) edits a.tables) (apply_group (at_now old) edits a.tables) in
    subst (λ b. Gives (cond b made (stays old (moved old.version))) (reply_of a.reply) c.take_group.new.self) (sym named)
    c.in-Ok.ensures.made

pub returns-in-Ok-clause-asked : goal.returns-in-Ok-clause-asked
returns-in-Ok-clause-asked g c =
    asked_where _ _ _ (edits_of c.args.edits.now) c.in-Ok.answered.tables c.in-Ok.ensures.changed c.in-Ok.ensures.asked

pub returns-in-Err-Memory-clause-chest : goal.returns-in-Err-Memory-clause-chest
returns-in-Err-Memory-clause-chest g c =
    let old = c.args.self.now in
    let named : names c.args.guard old.version ≡ true =
    ap (λ (n : Now). names c.args.guard n.version) (sym c.self.view_is) ∙ (sym c.is_named.ensures ∙ c.if-not-is_named.false) in
    part_named _ _ _ _ (edits_of c.args.edits.now) named
    (part_left _ _ (at_now old) (edits_of c.args.edits.now) _ c.in-Err-Memory.ensures.chest)
