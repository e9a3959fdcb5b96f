-- The channel is the one that the edit makes.
use Rattle.std.proofs.Common.{◌≡◌, refl, sym, ◌∙◌, ap, subst}
use Rattle.std.specs.Prelude.{List, [], ◌∷◌, ◌++◌}
use Rattle.spec_document.specs.Document.{Channel}
use Rattle.spec_edit.specs.Edit as edits
use Rattle.spec_edit.specs.Effect.{new_channel}
use Rattle.xl_edit.specs.Kept.{KeepsLimits}
use Rattle.xl_edit.proofs.Accepted.{limits_after, limits_of_channels, not_refused}
use Rattle.xl_edit.proofs.canvas.add_channel.Goals as goal

pub invariant_of-doc : goal.invariant_of-doc
invariant_of-doc c =
    let d = c.args.doc.now in
    let fresh : c.in_ok-channel.channel ≡ new_channel d c.args.name.now = c.in_ok-channel.ensures
    ∙ ap (new_channel d) c.in_ok-own.ensures in
    let P : Channel → Type 0 = λ channel. KeepsLimits d (record d { channels = d.channels ++ channel ∷ [] }) in
    record {
      marks = c.doc.invariant.marks;
      limits = limits_of_channels _ d (λ (channels : List Channel). channels
          ++ c.in_ok-channel.channel ∷ []) _ c.doc.view_is c.doc.invariant.limits
          (subst P (sym fresh)
          (limits_after d (edits.add_channel c.args.name.now) c.requires refl
          (not_refused _ (sym c.in_ok-check_new_channel.was ∙ c.check_new_channel.ensures.value)))) c.push.ensures;
    }
